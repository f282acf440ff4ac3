-- Accepted or refused, as the definition has it.
use Prim.Native.Nat.{ℕ}
use mathlib.Core.Path.{◌≡◌, refl, sym, ap, ◌∙◌}
use mathlib.Core.Bool.{Bool, cond}
use lib.Dec.{leb}
use lib.ListN.{length}
use borrow.Author.Tests.{le-leb}
use Rattle.std.specs.Prelude.{Result, Err}
use Rattle.seq.specs.Words.{first_or}
use Rattle.numbers.specs.Sizes.{legend_size}
use Rattle.numbers.specs.declared.Refusal.{Refusal}
use Rattle.numbers.specs.declared.Refusal.TheVariants.{Accepted}
use Rattle.numbers.specs.Numbers.{row_of}
use Rattle.numbers.proofs.Laws.{row_same}
use Rattle.calls.specs.declared.Command.{Command}
use Rattle.calls.specs.Core.{Core, stores_of}
use Rattle.calls.specs.Commands.{Issued, issued, decode}
use Rattle.calls.specs.Effects.{do_command}
use Rattle.calls.specs.Calls.{command, command_tests, refusal_of, perform, outcome_of}
use Rattle.calls.proofs.Accepted.{check-fits}
use Rattle.refusals.specs.Verdict.{verdict}
use Rattle.refusals.proofs.Laws.{granted, refuses}
use Rattle.state.specs.State.{sense_at, core_at, world_at}
use Rattle.state.specs.Host.{shown}
use Rattle.state.proofs.Sound.{sound-good}
use Rattle.serve.proofs.Steps.{step-accepted, step-refused}
use Rattle.serve.proofs.obey.Goals as goal

module _ (k : Core) (c : Command) (i : Issued) {v : Result Unit Refusal} (given : v ≡ verdict (first_or Accepted (command_tests k c i))) where
  of-call : c ≡ decode i.byte → v ≡ verdict (refusal_of k (command i))
  unfolding refusal_of
  of-call d = rw d at given

  -- the count that is shown is the record's where a load's check refuses it
  shows : {x : Refusal} {n : ℕ} → v ≡ Err x → n ≡ cond (leb (length i.sent) legend_size) (length i.sent) 0 → row_of n x ≡ row_of (length i.sent) x
  shows e s =
      row_same _ _ _ (λ y r. s ∙ ap (λ (t : Bool). cond t (length i.sent) 0) (le-leb _ _ (check-fits k c i ((refuses given e).0 ∙ r))))

pub perform-requires : goal.perform-requires
perform-requires c b =
    record {
      judged = c.requires;
      free = granted (c.command_refusal.ensures b _ (sym c.fixed-fixed.ensures) (sym c.sheet-sheet.ensures) (sound-good _ _ c.requires.sound)) c.in-Ok.is;
    }

pub returns-in-Ok : goal.returns-in-Ok
unfolding perform
returns-in-Ok c =
    let s = c.args.state.now in
    let m = stores_of c.args.page.now c.args.legends.now c.args.tables.now in
    let i = issued c.args.byte c.args.sent.now c.args.reply.now in
    c.perform.ensures c.args.byte
    ∙ ap shown (step-accepted (world_at s m) (command i)
    (of-call (core_at s m) _ i
    (c.command_refusal.ensures c.args.byte _ (sym c.fixed-fixed.ensures) (sym c.sheet-sheet.ensures) (sound-good _ _ c.requires.sound)) c.decode-command.ensures)
    c.in-Ok.is
    (ap (λ (k : Command). outcome_of (sense_at s) i.reply (do_command (core_at s m) k i)) c.decode-command.ensures))

pub returns-in-Err : goal.returns-in-Err
returns-in-Err c =
    let s = c.args.state.now in
    let m = stores_of c.args.page.now c.args.legends.now c.args.tables.now in
    let i = issued c.args.byte c.args.sent.now c.args.reply.now in
    let given = c.command_refusal.ensures c.args.byte (core_at s m) (sym c.fixed-fixed.ensures) (sym c.sheet-sheet.ensures) (sound-good _ _ c.requires.sound) in
    c.refuse.ensures i.reply m
    ∙ ap shown (step-refused (world_at s m) (command i) (of-call (core_at s m) _ i given c.decode-command.ensures) c.shown_count.result c.in-Err.is
    (shows (core_at s m) _ i given c.in-Err.is c.shown_count.ensures) refl)
