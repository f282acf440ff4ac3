-- T-05: the two ways of an immediate skip. They differ where one stands, and nowhere else.
use Prim.Native.Nat.{ℕ, ◌≤◌}
use mathlib.Core.Path.{◌≡◌, refl, sym, ap, ◌∙◌}
use mathlib.Core.Bool.{Bool, true, false, cond, not, false≢true}
use mathlib.Core.List.{List, [], ◌∷◌}
use native.Mathlib.Omega.{arith}
use lib.ListN.{length}
use borrow.Author.Tests.{not-true}
use Rattle.seq.proofs.Laws.{and_right, every-at}
use Rattle.numbers.specs.Numbers.{is_accepted}
use Rattle.movement.specs.declared.Motion.{Motion}
use Rattle.movement.specs.declared.Motion.TheVariants.{Space, Skip}
use Rattle.movement.specs.declared.Moved.{Moved}
use Rattle.movement.specs.Movement.{round, up_to_first, has, skipped, moved, is_there, still}
use Rattle.movement.proofs.MovementLaws.{round-length, first_some}
use Rattle.line.specs.Line.{no_causes, or_unmatched}
use Rattle.calls.specs.declared.Load.TheVariants.{Fcb, TranslateTable, CopyModification, OverlaySequence, CopyNumber}
use Rattle.calls.specs.declared.Control.TheVariants.{NoOp, SenseIo, Initialize, Clear, Block, Allow, Select}
use Rattle.calls.specs.declared.Command.{Command}
use Rattle.calls.specs.declared.Command.TheVariants.{Write, Move, Controls, Loads, Unlisted}
use Rattle.calls.specs.declared.State.{State}
use Rattle.calls.specs.Core.{Core, World, lines_now, P, started}
use Rattle.calls.specs.Commands.{Issued, decode}
use Rattle.calls.specs.Contents.{ranges_ok, core_ok}
use Rattle.calls.specs.Reset.{byte3, sense_bytes, reset, reset_state}
use Rattle.calls.specs.Effects.{Effect, refused, done, moved_core, move_of, stands, at_once, do_move, written, write_causes, do_write, load_check, loaded, load_causes, do_load, completing, do_control, do_command}
use Rattle.calls.specs.Calls.{Call, command, compose, release, tally, check_of, movement, refusal_of, copy_at, do_compose, page_counted, emptied, released, do_release, tallying, do_tally, perform, size_of, effect, Outcome, step}
use Rattle.calls.specs.Lists.{world_after}
use Rattle.calls.specs.Ways.{with_way, in_way, world_in, effect_in, command_stands, call_stands, none_stands, move_before, command_before, perform_before, effect_before}
use Rattle.calls.proofs.Refused.{refused-effect, accepted-effect, by-outcome}

-- In the old way every call does what it did before this request.
move-as-before : (k : Core) (m : Motion) → k.state.fixed.old ≡ true → do_move k m ≡ move_before k m
unfolding do_move at_once stands move_before
move-as-before k m e = rw e

command-as-before : (k : Core) (c : Command) (i : Issued) → k.state.fixed.old ≡ true → do_command k c i ≡ command_before k c i
unfolding do_command command_before
command-as-before k (Write m) i e = refl
command-as-before k (Move m) i e = move-as-before k m e
command-as-before k (Controls c) i e = refl
command-as-before k (Loads l) i e = refl
command-as-before k Unlisted i e = refl

perform-as-before : (k : Core) (c : Call) → k.state.fixed.old ≡ true → perform k c ≡ perform_before k c
unfolding perform perform_before
perform-as-before k (command i) e = command-as-before k (decode i.byte) i e
perform-as-before k (compose n out) e = refl
perform-as-before k release e = refl
perform-as-before k (tally t) e = refl

pub as_before : (k : Core) (c : Call) → k.state.fixed.old ≡ true → effect k c ≡ effect_before k c
unfolding effect effect_before
as_before k c e = rw (perform-as-before k c e)

-- Where an immediate skip does not stand it moves, in either way.
moves : (old : Bool) (s : State) (m : Motion) → stands (with_way s false) m ≡ false → at_once (with_way s old) m ≡ move_of s m
unfolding at_once stands move_of lines_now
moves true s m e = refl
moves false s m e = rw e

module _ (old : Bool) (k : Core) where
  same-movement : (c : Command) → command_stands k.state c ≡ false → movement (in_way old k) c ≡ movement k c
  unfolding movement command_stands move_of lines_now
  same-movement (Write m) e = refl
  same-movement (Move m) e = moves old k.state m e ∙ sym (moves k.state.fixed.old k.state m e)
  same-movement (Controls c) e = refl
  same-movement (Loads l) e = refl
  same-movement Unlisted e = refl

  same_check : (c : Command) (i : Issued) → check_of (in_way old k).state c i ≡ check_of k.state c i
  unfolding check_of load_check
  same_check (Write m) i = refl
  same_check (Move m) i = refl
  same_check (Controls c) i = refl
  same_check (Loads Fcb) i = refl
  same_check (Loads TranslateTable) i = refl
  same_check (Loads CopyModification) i = refl
  same_check (Loads OverlaySequence) i = refl
  same_check (Loads CopyNumber) i = refl
  same_check Unlisted i = refl

  same-refusal : (c : Call) → call_stands k c ≡ false → refusal_of (in_way old k) c ≡ refusal_of k c
  unfolding refusal_of call_stands core_ok ranges_ok lines_now
  same-refusal (command i) e = rw (same-movement (decode i.byte) e, same_check (decode i.byte) i)
  same-refusal (compose n out) e = refl
  same-refusal release e = refl
  same-refusal (tally t) e = refl

  same-completing : (due t : Bool) (u : Core) → started k.state.sheet ≡ t → completing (in_way old k) due (in_way old u) ≡ effect_in old (completing k due u)
  unfolding completing done
  same-completing due true u e = rw e
  same-completing due false u e = rw e

  same-doing : (c : Command) (i : Issued) → command_stands k.state c ≡ false → do_command (in_way old k) c i ≡ effect_in old (do_command k c i)
  unfolding do_command do_control do_write do_move do_load done movement written write_causes command_stands move_of lines_now loaded load_causes reset reset_state sense_bytes byte3 refused
  same-doing (Write m) i e = refl
  same-doing (Move m) i e =
      ap (λ (v : Moved). done (moved_core false (in_way old k) v) (or_unmatched no_causes v.missed) v) (same-movement (Move m) e)
  same-doing (Controls NoOp) i e = refl
  same-doing (Controls SenseIo) i e = refl
  same-doing (Controls Initialize) i e = same-completing true (started k.state.sheet) (reset k) refl
  same-doing (Controls Clear) i e = same-completing false (started k.state.sheet) k refl
  same-doing (Controls Block) i e = refl
  same-doing (Controls Allow) i e = refl
  same-doing (Controls (Select n)) i e = refl
  same-doing (Loads Fcb) i e = refl
  same-doing (Loads TranslateTable) i e = refl
  same-doing (Loads CopyModification) i e = refl
  same-doing (Loads OverlaySequence) i e = refl
  same-doing (Loads CopyNumber) i e = refl
  same-doing Unlisted i e = refl

  same-release : (t : Bool) → k.state.sheet.due ≡ t → released (in_way old k) ≡ in_way old (released k)
  unfolding released reset reset_state emptied page_counted
  same-release true e = rw e
  same-release false e = rw e

  same-perform : (c : Call) → call_stands k c ≡ false → perform (in_way old k) c ≡ effect_in old (perform k c)
  unfolding perform call_stands do_compose copy_at lines_now do_release do_tally tallying
  same-perform (command i) e = same-doing (decode i.byte) i e
  same-perform (compose n out) e = refl
  same-perform release e = rw (same-release k.state.sheet.due refl)
  same-perform (tally t) e = refl

  -- Everywhere else a call answers, writes and leaves the same in both.
  pub elsewhere : (c : Call) → call_stands k c ≡ false → effect (in_way old k) c ≡ effect_in old (effect k c)
  unfolding refused
  elsewhere c e =
      let r = same-refusal c e in
      by-outcome (λ (x : Effect). effect (in_way old k) c ≡ effect_in old x) k c
      (λ a. accepted-effect (in_way old k) c (ap is_accepted r ∙ a) ∙ same-perform c e)
      (λ a. refused-effect (in_way old k) c (ap is_accepted r ∙ a) ∙ ap (refused (in_way old k) (size_of c)) r)

-- There they differ: in the new way no line is moved, in the old at least one.
goes_on : (s : State) (m : Motion) → is_there (lines_now s) s.sheet.line m ≡ true → s.sheet.line ≤ P s → 1 ≤ P s → 1 ≤ (move_of s m).lines
unfolding is_there move_of moved skipped
goes_on s (Space n) t on some = absurd (false≢true t)
goes_on s (Skip channel) t on some =
    let ls = lines_now s in
    first_some (has ls channel) (round (length ls) s.sheet.line) (omega (arith, round-length (length ls) s.sheet.line on))

module _ (s : State) (m : Motion) (e : stands (with_way s false) m ≡ true) where
  pub stands-still : at_once (with_way s false) m ≡ still s.sheet.line
  unfolding at_once
  stands-still = rw e

  pub old-goes-on : 1 ≤ s.sheet.line → s.sheet.line ≤ P s → 1 ≤ (at_once (with_way s true) m).lines
  unfolding at_once stands move_of lines_now
  old-goes-on low on = goes_on s m (and_right (not s.sheet.written) _ e) on (omega (arith, low, on))

-- What the lines moved of an immediate skip are: those that it looked at, up to the match, or none where it stands.
pub lines-looked-at : (s : State) (channel : ℕ)
    → (at_once s (Skip channel)).lines
    ≡ cond (stands s (Skip channel)) 0 (length (up_to_first (has (lines_now s) channel) (round (P s) s.sheet.line)))
unfolding at_once still move_of moved skipped
lines-looked-at s channel = lines_of (stands s (Skip channel))
  where
    lines_of : (t : Bool) → (cond t (still s.sheet.line) (move_of s (Skip channel))).lines
        ≡ cond t 0 (length (up_to_first (has (lines_now s) channel) (round (P s) s.sheet.line)))
    lines_of true = refl
    lines_of false = refl

-- Over steps and lists of calls: the same but for the way, as long as no call is a skip that stands.
pub same_step : (old : Bool) (w : World) (c : Call) → call_stands w.core c ≡ false
    → (let o = step w c in step (world_in old w) c ≡ record { answer = o.answer; buffer = o.buffer; world = world_in old o.world })
unfolding step
same_step old w c e = rw (elsewhere old w.core c e)

pub same-list : (old : Bool) (w : World) (cs : List Call) → none_stands w.core cs ≡ true → world_after (world_in old w) cs ≡ world_in old (world_after w cs)
unfolding world_after none_stands step
same-list old w [] e = refl
same-list old w (c ∷ cs) e =
    ap (λ (o : Outcome). world_after o.world cs) (same_step old w c (not-true (call_stands w.core c) (every-at 0 _ e)))
    ∙ same-list old (step w c).world cs (every-at 1 _ e)
