-- What is known of an accepted call: no test of its order held.
use Prim.Native.Nat.{ℕ, ◌*◌, ◌≤◌}
use mathlib.Core.Path.{◌≡◌, refl, ap}
use mathlib.Core.Bool.{Bool, true, false, ◌&&◌}
use mathlib.Core.List.{List, [], ◌∷◌}
use native.Mathlib.Omega.{arith}
use lib.Dec.{eqb}
use lib.ListN.{length}
use borrow.Author.Tests.{not-false, eqb-false, ltb-false}
use Rattle.seq.specs.Words.{when, first_or}
use Rattle.std.specs.Prelude.{Ok}
use Rattle.seq.proofs.Laws.{and_left, and_right, or_left, or_right, passed}
use Rattle.numbers.specs.Sizes.{line_bytes, legend_size}
use Rattle.numbers.specs.declared.Cause.{Cause}
use Rattle.numbers.specs.declared.Refusal.TheVariants.{Accepted, NotListed, BadRecord, LoadCheck, PageWaiting, PageStarted, TooShort, BadStore, TwoPages}
use Rattle.numbers.specs.Numbers.{row_of, number_of, is_accepted, checked}
use Rattle.numbers.proofs.Laws.{accepted-is, not-accepted, passed-check, goes_on}
use Rattle.form.specs.Form.{form_ok}
use Rattle.copies.specs.Copies.{copy_count}
use Rattle.counters.specs.declared.Tally.{Tally}
use Rattle.counters.specs.Counters.{none_between, most_between}
use Rattle.calls.specs.declared.State.{State}
use Rattle.calls.specs.declared.Command.{Command}
use Rattle.calls.specs.declared.Command.TheVariants.{Write, Move, Controls, Loads, Unlisted}
use Rattle.calls.specs.Core.{Stores, Core, P}
use Rattle.calls.specs.Commands.{Issued, decode}
use Rattle.calls.specs.Contents.{core_ok}
use Rattle.calls.specs.Calls.{command, release, tally, bad_record, check_of, command_tests, compose_tests, refusal_of}
use Rattle.calls.specs.Start.{skip_ok, start_refusal, start_world, start_outcome}
use Rattle.calls.specs.declared.Asked.{Asked}
use Rattle.calls.specs.Premises.{Allowed, Composable, Startable}

pub allowed-by : (k : Core) (c : Command) (i : Issued) → first_or Accepted (command_tests k c i) ≡ Accepted → Allowed k c i
unfolding is_accepted row_of
allowed-by k c i e =
    let h₁ = passed _ _ (not-accepted refl) e in
    let h₂ = passed _ _ (not-accepted refl) h₁.1 in
    let h₃ = passed _ _ (not-accepted refl) h₂.1 in
    let h₄ = passed _ _ (not-accepted refl) h₃.1 in
    let h₅ = passed _ _ (not-accepted refl) h₄.1 in
    let h₆ = passed-check _ _ h₅.1 in
    let h₇ = passed _ _ (not-accepted refl) h₆.1 in
    record { ok = not-false (core_ok k) h₁.0; known = h₂.0; free = h₃.0; sized = h₄.0; unstarted = h₅.0; sound = h₆.0; roomy = h₇.0 }

pub allowed : (k : Core) (i : Issued) → is_accepted (refusal_of k (command i)) ≡ true → Allowed k (decode i.byte) i
unfolding refusal_of
allowed k i e = allowed-by k (decode i.byte) i (accepted-is _ e)

-- A load check is given to a load alone, so to a record of at most 8,192 bytes.
no-check : (a b : Bool) {x : Cause} → first_or Accepted (checked (Ok tt) ∷ when a TooShort ∷ when b TwoPages ∷ []) ≡ LoadCheck x → ⊥
unfolding first_or checked row_of
no-check a b e =
    let h : ◌≡◌ {A = ℕ} 0 3 = ap number_of (goes_on TwoPages b [] refl (goes_on TooShort a (when b TwoPages ∷ []) refl e).1).1 in
    omega (arith, h)

fits-of : (s : State) (c : Command) (i : Issued) (a b : Bool) {x : Cause} → bad_record c i ≡ false
    → first_or Accepted (checked (check_of s c i) ∷ when a TooShort ∷ when b TwoPages ∷ []) ≡ LoadCheck x → length i.sent ≤ legend_size
unfolding check_of
fits-of s (Write m) i a b h e = absurd (no-check a b e)
fits-of s (Move m) i a b h e = absurd (no-check a b e)
fits-of s (Controls c) i a b h e = absurd (no-check a b e)
fits-of s (Loads l) i a b h e = ltb-false legend_size (length i.sent) h
fits-of s Unlisted i a b h e = absurd (no-check a b e)

pub check-fits : (k : Core) (c : Command) (i : Issued) {x : Cause} → first_or Accepted (command_tests k c i) ≡ LoadCheck x → length i.sent ≤ legend_size
unfolding row_of
check-fits k c i e =
    let h₁ = goes_on BadStore _ _ refl e in
    let h₂ = goes_on NotListed _ _ refl h₁.1 in
    let h₃ = goes_on PageWaiting _ _ refl h₂.1 in
    let h₄ = goes_on BadRecord _ _ refl h₃.1 in
    let h₅ = goes_on PageStarted _ _ refl h₄.1 in
    fits-of _ c i _ _ h₄.0 h₅.1

pub composable : (k : Core) (n : ℕ) (out : List ℕ) → first_or Accepted (compose_tests k n out) ≡ Accepted → Composable k n out
unfolding is_accepted row_of
composable k n out e =
    let h₁ = passed _ _ (not-accepted refl) e in
    let h₂ = passed _ _ (not-accepted refl) h₁.1 in
    let h₃ = passed _ _ (not-accepted refl) h₂.1 in
    let h₄ = passed _ _ (not-accepted refl) h₃.1 in
    let some : (n ≡ 0 → ⊥) = eqb-false n 0 (or_left _ _ h₃.0) in
    record {
      ok = not-false (core_ok k) h₁.0;
      low = omega (arith, some);
      high = ltb-false (copy_count k.state.copies) n (or_right (eqb n 0) _ h₃.0);
      room = ltb-false (length out) (line_bytes * P k.state) h₄.0;
    }

-- T-02: an accepted Release has room for its page, and an accepted report a page to count.
pub release-room : (k : Core) → is_accepted (refusal_of k release) ≡ true → most_between k.state.counters ≡ false
unfolding refusal_of is_accepted row_of
release-room k e = (passed _ _ (not-accepted refl) (passed _ _ (not-accepted refl) (passed _ _ (not-accepted refl) (accepted-is _ e)).1).1).0

pub tally-room : (k : Core) (t : Tally) → is_accepted (refusal_of k (tally t)) ≡ true → none_between t k.state.counters ≡ false
unfolding refusal_of is_accepted row_of
tally-room k t e = (passed _ _ (not-accepted refl) (passed _ _ (not-accepted refl) (accepted-is _ e)).1).0

pub startable : (a : Asked) (m : Stores) → is_accepted (start_refusal a m) ≡ true → Startable a m
unfolding start_refusal is_accepted row_of
startable a m e =
    let h₁ = passed _ _ (not-accepted refl) (accepted-is _ e) in
    let h₂ = passed _ _ (not-accepted refl) h₁.1 in
    let form = form_ok a.length a.pitches in
    let ok = not-false (form && skip_ok a.skip) h₂.0 in
    record { sizes = not-false _ h₁.0; form = and_left form (skip_ok a.skip) ok; skip = and_right form (skip_ok a.skip) ok }

-- Such a Start leaves the same printer, whatever the stores held before it.
pub started-world : (a : Asked) (m : Stores) → is_accepted (start_refusal a m) ≡ true → (start_outcome a m).world ≡ start_world a
unfolding start_outcome
started-world a m e = rw e
