-- Accepted or refused, as the definition has it; either way the state is left as it was.
use Prim.Native.Nat.{ℕ, ◌≤◌}
use mathlib.Core.Path.{◌≡◌, refl, ap, ◌∙◌}
use mathlib.Core.Bool.{true}
use mathlib.Core.List.{List}
use native.Mathlib.Omega.{arith}
use borrow.Author.Rules.{rules}
use Rattle.std.specs.Prelude.{Result, Ok}
use Rattle.seq.specs.Words.{first_or}
use Rattle.numbers.specs.declared.Refusal.{Refusal}
use Rattle.numbers.specs.declared.Refusal.TheVariants.{Accepted}
use Rattle.form.specs.declared.Layout.{Layout}
use Rattle.copies.specs.Copies.{copy_count}
use Rattle.copies.proofs.CopiesLaws.{few-copies}
use Rattle.calls.specs.Core.{Stores, stores_of, laid_out}
use Rattle.calls.specs.Contents.{core_ok}
use Rattle.calls.specs.Calls.{compose, compose_tests, refusal_of, do_compose, perform}
use Rattle.calls.specs.Premises.{Composable}
use Rattle.calls.proofs.Accepted.{composable}
use Rattle.calls.proofs.Good.{form-lines}
use Rattle.calls.proofs.Refused.{compose-keeps}
use Rattle.refusals.specs.Verdict.{verdict}
use Rattle.refusals.proofs.Laws.{granted}
use Rattle.printer.specs.declared.Printer.{Printer}
use Rattle.printer.specs.Worlds.{core_of}
use Rattle.state.specs.State.{state_at, core_at, world_at, printer_at}
use Rattle.state.specs.Host.{shown}
use Rattle.state.proofs.Sound.{sound-good}
use Rattle.serve.specs.Served.{Judged}
use Rattle.serve.proofs.Put.{left_alone}
use Rattle.serve.proofs.Good.{judged-good, judged-fit}
use Rattle.serve.proofs.Steps.{step-accepted, step-left}
use Rattle.serve.proofs.copy_page.Goals as goal

module _ (n : ℕ) (out : List ℕ) {s : List ℕ} {m : Stores} {w : Layout} {p : Printer} {v : Result Unit Refusal} (j : Judged s m w) (d : p ≡ printer_at s)
    (found : w ≡ laid_out p.state → core_ok (core_of p m) ≡ true → v ≡ verdict (first_or Accepted (compose_tests (core_of p m) n out))) where
  of-bytes : v ≡ verdict (first_or Accepted (compose_tests (core_at s m) n out))
  of-bytes = (rw d at found) j.layout (sound-good _ _ j.sound)

  of-call : v ≡ verdict (refusal_of (core_at s m) (compose n out))
  unfolding refusal_of
  of-call = of-bytes

  allowed : v ≡ Ok tt → Composable (core_at s m) n out
  allowed e = composable _ _ _ (granted of-bytes e)

  few : v ≡ Ok tt → n ≤ 255
  unfolding copy_count
  few e = omega (arith, (allowed e).high, few-copies _ (judged-good j).copies.sound)

pub overflow_cast-copy : goal.overflow_cast-copy
overflow_cast-copy c = let h = few _ _ c.requires c.decode-p.ensures (c.compose_refusal.ensures _) c.in-Ok.is in omega arith

pub compose-requires : goal.compose-requires
compose-requires c =
    let k = allowed _ _ c.requires c.decode-p.ensures (c.compose_refusal.ensures _) c.in-Ok.is in
    let g = judged-good c.requires in
    rw c.decode-p.ensures
    (record {
      fit = judged-fit c.requires;
      low = k.low;
      high = few _ _ c.requires c.decode-p.ensures (c.compose_refusal.ensures _) c.in-Ok.is;
      room = rw (form-lines (state_at c.args.state.now) _ c.requires.layout) k.room;
      page = g.sizes.page;
      legends = g.legends;
    })

pub returns-in-Ok : goal.returns-in-Ok
unfolding perform do_compose
returns-in-Ok c =
    let s = c.args.state.now in
    let m = stores_of c.args.page.now c.args.legends.now c.args.tables.now in
    left_alone s c.decode-p.ensures c.args.out.now m (λ k. do_compose k c.args.copy) (c.compose.ensures _) (search rules) c.requires.bytes.read refl refl
    ∙ ap shown (step-accepted (world_at s m) (compose c.args.copy c.args.out.now)
    (of-call _ _ c.requires c.decode-p.ensures (c.compose_refusal.ensures m)) c.in-Ok.is refl)

pub returns-in-Err : goal.returns-in-Err
returns-in-Err c =
    let s = c.args.state.now in
    let m = stores_of c.args.page.now c.args.legends.now c.args.tables.now in
    step-left c.decode-p.ensures m (compose c.args.copy c.args.out.now)
    (of-call _ _ c.requires c.decode-p.ensures (c.compose_refusal.ensures m)) c.in-Err.is refl
    (c.refuse.ensures m c.args.out.now) (search rules) c.requires.bytes.read (λ a. compose-keeps (world_at s m) c.args.copy c.args.out.now)
