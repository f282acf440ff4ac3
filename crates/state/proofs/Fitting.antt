-- Every answer fits the fields of its packed number, on a state whose copy number reference is a byte; Start's always does.
use Prim.Native.Nat.{ℕ, zero, suc, ◌-◌, ◌≤◌, ◌<◌}
use mathlib.Core.Path.{◌≡◌, refl}
use mathlib.Core.Bool.{true, false, not, ◌||◌}
use mathlib.Core.List.{List, [], ◌∷◌}
use native.Mathlib.Omega.{arith}
use lib.ListN.{length}
use lib.Dec.{eqb, leb, ltb, lit≤}
use borrow.Author.Tests.{ltb-true, ltb-false}
use Rattle.seq.specs.Words.{any}
use Rattle.std.specs.Prelude.{Ok}
use Rattle.seq.proofs.Laws.{or_left, or_right, bit-most, cond_has, passed}
use Rattle.numbers.specs.declared.Refusal.TheVariants.{Accepted}
use Rattle.numbers.specs.Numbers.{row_of, is_accepted}
use Rattle.numbers.proofs.Laws.{faulty, accepted-is, facts}
use Rattle.movement.specs.declared.Motion.{Motion}
use Rattle.movement.specs.declared.Motion.TheVariants.{Space, Skip}
use Rattle.movement.specs.declared.Moved.{Moved}
use Rattle.movement.specs.Movement.{Spot, entered, spaced, moved, still}
use Rattle.movement.proofs.MovementLaws.{skipped-most}
use Rattle.line.specs.declared.Causes.{Causes}
use Rattle.line.specs.Line.{cause_byte}
use Rattle.line.proofs.UnprintableLaws.{Tells}
use Rattle.copies.specs.declared.Copies.{Copies}
use Rattle.copies.specs.Copies.{bad_pair, sequence_check, mark_in, sequence_now, copy_count, copy_mark}
use Rattle.copies.proofs.CopiesLaws.{few-copies, number-most}
use Rattle.calls.specs.declared.Command.{Command}
use Rattle.calls.specs.declared.Command.TheVariants.{Write, Move, Controls, Loads, Unlisted}
use Rattle.calls.specs.Core.{Stores, Core, World, lines_now}
use Rattle.calls.specs.Commands.{Issued}
use Rattle.calls.specs.Contents.{core_ok}
use Rattle.calls.specs.Effects.{Effect, refused, done, move_of, at_once}
use Rattle.calls.specs.Calls.{Call, command, compose, release, tally, movement, refusal_of, copy_at, do_compose, do_release, do_tally, perform, size_of, effect, Outcome, step}
use Rattle.calls.specs.Start.{start_refusal, start_outcome}
use Rattle.calls.specs.declared.Asked.{Asked}
use Rattle.calls.specs.Premises.{Allowed}
use Rattle.calls.proofs.Standing.{at-once-has}
use Rattle.calls.proofs.Good.{good, few-now}
use Rattle.calls.proofs.Accepted.{allowed, composable}
use Rattle.calls.proofs.Refused.{by-outcome}
use Rattle.calls.proofs.Answers.{causes_of, Shape, sets, quiet, performed, acted, lines-of-no-move}
use Rattle.calls.proofs.Unprintable.{causes-tell}
use Rattle.state.proofs.Fields.{Fits, only-fits}

-- what an accepted command tells besides is its lines and its unprintable positions
done-fits : (k : Core) (c : Causes) (m : Moved) → m.lines < 256 → Tells c.unprintables → Fits (done k c m).answer
unfolding done row_of
done-fits k c m h u =
    let check = not (eqb (cause_byte k.state.blocked c) 0) in
    record {
      status = omega (arith, bit-most (check || m.nine) 0x02, bit-most m.twelve 0x01);
      mark = lit≤ tt;
      lines = h;
      copy = lit≤ tt;
      first = omega (arith, u.first);
      count = omega (arith, u.count);
    }

-- The lines that a movement has: a space from line c of p enters those after c, and line 1 of the next form; a skip goes round the p.
entered-few : (p c n : ℕ) → length (entered p c n) ≤ suc (p - c)
unfolding entered
entered-few p c zero = omega arith
entered-few p c (suc n) =
    cond_has (λ (l : List Spot). length l ≤ suc (p - c)) (ltb c p)
    (λ e. omega (arith, ltb-true c p e, entered-few p (suc c) n)) (λ e. omega arith)

moved-few : (ls : List ℕ) (c : ℕ) (m : Motion) → 1 ≤ c → c ≤ length ls → (moved ls c m).lines ≤ length ls
unfolding moved spaced
moved-few ls c (Space n) a b = omega (arith, entered-few (length ls) c n)
moved-few ls c (Skip channel) a b = skipped-most ls c b (omega arith) channel

-- a command's movement, on contents that a printer can have
module _ (k : Core) (ok : core_ok k ≡ true) where
  move-few : (m : Motion) → (move_of k.state m).lines < 256
  unfolding move_of
  move-few m =
      let s = (good k ok).sheet in
      omega (arith, few-now k (good k ok), moved-few (lines_now k.state) k.state.sheet.line m s.low s.high)

  at-once-few : (m : Motion) → (at_once k.state m).lines < 256
  unfolding still
  at-once-few m = at-once-has (λ (v : Moved). v.lines < 256) k.state m (lit≤ tt) (move-few m)

  movement-few : (c : Command) → (movement k c).lines < 256
  unfolding movement
  movement-few (Write m) = move-few m
  movement-few (Move m) = at-once-few m
  movement-few (Controls c) = rw (lines-of-no-move k (Controls c) refl) (lit≤ tt)
  movement-few (Loads l) = rw (lines-of-no-move k (Loads l) refl) (lit≤ tt)
  movement-few Unlisted = rw (lines-of-no-move k Unlisted refl) (lit≤ tt)

command-fits : {k : Core} {c : Command} {i : Issued} {e : Effect} → Allowed k c i → Shape k c i e → Fits e.answer
unfolding row_of
command-fits {k} {c} {i} a (sets k' q w e) =
    rw e (done-fits k' (causes_of k c i) (movement k c) (movement-few k a.ok c) (causes-tell k c i a))
command-fits a (quiet s f q m e) = rw e (only-fits Accepted _ (lit≤ tt))

pub accepted-fits : (k : Core) (i : Issued) → is_accepted (refusal_of k (command i)) ≡ true → Fits (effect k (command i)).answer
accepted-fits k i e = command-fits (allowed k i e) (acted k i e)

-- The mark that Compose tells is one of the sequence's, so 0 or 1.
mark-in : (k : ℕ) (ps : List (ℕ × ℕ)) → any bad_pair ps ≡ false → mark_in k ps ≤ 1
unfolding mark_in
mark-in k [] e = lit≤ tt
mark-in k (p ∷ ps) e =
    cond_has (λ (n : ℕ). n ≤ 1) (leb k p.0)
    (λ t. ltb-false 1 p.1 (or_right (eqb p.0 0) _ (or_left (bad_pair p) _ e))) (λ t. mark-in (k - p.0) ps (or_right (bad_pair p) _ e))

mark-most : (c : Copies) (k : ℕ) → sequence_check (sequence_now c) ≡ Ok tt → copy_mark c k ≤ 1
unfolding copy_mark sequence_check
mark-most c k e = mark-in k _ (or_left _ _ (passed _ _ faulty (passed _ _ faulty e).1).0)

-- copy number and mark of an accepted Compose
copy-fits : (k : Core) (n : ℕ) (out : List ℕ) → k.state.copies.reference ≤ 255 → is_accepted (refusal_of k (compose n out)) ≡ true
    → Fits (do_compose k n).answer
unfolding do_compose copy_at refusal_of copy_count
copy-fits k n out h e =
    let c = composable k n out (accepted-is _ e) in
    let g = (good k c.ok).copies in
    record {
      status = lit≤ tt;
      mark = mark-most k.state.copies n g.sound;
      lines = lit≤ tt;
      copy = omega (arith, number-most k.state.copies n h (omega (arith, c.high, few-copies _ g.sound)));
      first = lit≤ tt;
      count = lit≤ tt;
    }

-- every accepted call
perform-fits : (k : Core) (c : Call) → k.state.copies.reference ≤ 255 → is_accepted (refusal_of k c) ≡ true → Fits (perform k c).answer
unfolding perform do_release do_tally
perform-fits k (command i) h e = command-fits (allowed k i e) (performed k i e)
perform-fits k (compose n out) h e = copy-fits k n out h e
perform-fits k release h e = only-fits Accepted 0 (lit≤ tt)
perform-fits k (tally t) h e = only-fits Accepted 0 (lit≤ tt)

-- Every answer fits its fields, on a state whose copy number reference is a byte; Start's always does.
pub step_fits : (w : World) (c : Call) → w.core.state.copies.reference ≤ 255 → Fits (step w c).answer
unfolding step refused
step_fits w c h =
    by-outcome (λ (e : Effect). Fits e.answer) w.core c (perform-fits w.core c h) (λ e. only-fits _ _ (omega (arith, (facts (size_of c) 0 (refusal_of w.core c)).status_most)))

pub start_fits : (a : Asked) (m : Stores) → Fits (start_outcome a m).answer
unfolding start_outcome
start_fits a m =
    cond_has (λ (o : Outcome). Fits o.answer) (is_accepted (start_refusal a m)) (λ e. only-fits Accepted 0 (lit≤ tt))
    (λ e. only-fits _ _ (omega (arith, (facts 0 0 (start_refusal a m)).status_most)))
