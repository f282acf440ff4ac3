-- Document 01, "Numbers": a number is given exactly when the table says, and a refused call changes nothing except the sense shown.
use Prim.Native.Nat.{ℕ, ◌≤◌}
use mathlib.Core.Path.{◌≡◌, refl, ap, ◌∙◌}
use mathlib.Core.Bool.{Bool, true, false, not, ◌&&◌, and-false}
use mathlib.Core.List.{List, [], ◌∷◌, ◌++◌, map}
use mathlib.Core.Logic.{◌⊎◌, inl, inr}
use lib.Dec.{eqb, lit≤}
use borrow.Author.Tests.{le-ltb, not-true}
use Rattle.seq.specs.Words.{first_or, when, every, from}
use Rattle.seq.proofs.Laws.{First, first-is, first-only, cond_has, every-at, every_of, finally, also}
use Rattle.numbers.specs.declared.Refusal.{Refusal}
use Rattle.numbers.specs.declared.Refusal.TheVariants.{Accepted, NotListed, BadRecord, PageWaiting, PageStarted, NoPage, BadIndex, TooShort, BadStore, TwoPages, NoneBetween, MostBetween}
use Rattle.numbers.specs.Numbers.{sense_after, row_of, number_of, is_accepted, only}
use Rattle.numbers.proofs.Laws.{tells, sense-kept, number-not, number-check, number-none}
use Rattle.form.specs.Form.{form_lengths, form_ok}
use Rattle.movement.specs.declared.Moved.{Moved}
use Rattle.movement.specs.Movement.{still, to_top}
use Rattle.movement.proofs.MovementLaws.{one-page}
use Rattle.counters.specs.declared.Tally.{Tally}
use Rattle.calls.specs.declared.Command.{Command}
use Rattle.calls.specs.declared.Command.TheVariants.{Write, Move, Controls, Loads, Unlisted}
use Rattle.calls.specs.Core.{Stores, Core, World, sizes_ok, started}
use Rattle.calls.specs.Commands.{decode, control_traits}
use Rattle.calls.specs.Contents.{ranges_ok, core_ok}
use Rattle.calls.specs.Effects.{Effect, refused, move_of}
use Rattle.calls.specs.Calls.{Call, command, compose, release, tally, movement, tests_of, refusal_of, do_compose, perform, size_of, effect, lent, Outcome, step}
use Rattle.calls.specs.Start.{start_tests, start_refusal, no_state, no_printer, start_outcome}
use Rattle.calls.specs.declared.Asked.{Asked}
use Rattle.calls.proofs.Standing.{at-once-has}

-- What a call does is what its refusal says, or what the accepted call does.
pub refused-effect : (k : Core) (c : Call) → is_accepted (refusal_of k c) ≡ false → effect k c ≡ refused k (size_of c) (refusal_of k c)
unfolding effect
refused-effect k c e = rw e

pub accepted-effect : (k : Core) (c : Call) → is_accepted (refusal_of k c) ≡ true → effect k c ≡ perform k c
unfolding effect
accepted-effect k c e = rw e

-- What holds of an accepted call's doing, and of a refusal, holds of every call.
pub by-outcome : (Q : Effect → Type 0) (k : Core) (c : Call) → (is_accepted (refusal_of k c) ≡ true → Q (perform k c))
    → (is_accepted (refusal_of k c) ≡ false → Q (refused k (size_of c) (refusal_of k c))) → Q (effect k c)
unfolding effect
by-outcome Q k c a r = cond_has Q (is_accepted (refusal_of k c)) a r

-- The whole outcome of a refused call: its number and status, the sense as tabled, and all else as it was, every lent byte among it.
pub refused-step : (w : World) (c : Call) → is_accepted (refusal_of w.core c) ≡ false
    → (let x = refusal_of w.core c in
    step w c
    ≡ record { answer = only x (row_of (size_of c) x).status; buffer = lent c; world = record { core = w.core; sense = sense_after w.sense (row_of (size_of c) x).sense } })
unfolding step refused
refused-step w c e = rw (refused-effect w.core c e)

-- Every command completes at most one page, on every form.
pub one-page-only : (k : Core) (c : Command) → (movement k c).pages ≤ 1
unfolding movement move_of still to_top
one-page-only k (Write m) = one-page _ _ m
one-page-only k (Move m) = at-once-has (λ (v : Moved). v.pages ≤ 1) k.state m (lit≤ tt) (one-page _ _ m)
one-page-only k (Controls c) =
    cond_has (λ (v : Moved). v.pages ≤ 1) ((control_traits c).completes && started k.state.sheet) (λ t. lit≤ tt) (λ t. lit≤ tt)
one-page-only k (Loads l) = lit≤ tt
one-page-only k Unlisted = lit≤ tt

-- The numbers that a call's order names, besides 9 and 11, with 0 for none of them. No other is given, except 9 where the contents are bad; 11 never is.
abbrev pub numbers_of : Call → List ℕ
numbers_of (command i) = 0 ∷ 1 ∷ 4 ∷ 2 ∷ 5 ∷ 3 ∷ 8 ∷ []
numbers_of (compose n out) = 0 ∷ 6 ∷ 7 ∷ 8 ∷ []
numbers_of release = 0 ∷ 6 ∷ 13 ∷ []
numbers_of (tally t) = 0 ∷ 12 ∷ []

abbrev none_of : List ℕ → ℕ → Bool
none_of l n = every (map (λ m. not (eqb m n)) l)

pub not-given : (n : ℕ) (k : Core) (c : Call) → (not (core_ok k) ≡ false) ⊎ (eqb 9 n ≡ false) → none_of (numbers_of c) n ≡ true
    → eqb (number_of (refusal_of k c)) n ≡ false
unfolding refusal_of row_of
not-given n k (command i) nine other =
    number-not n _ BadStore _ nine
    (number-not n _ NotListed _ (inr (not-true _ (every-at 1 _ other)))
    (number-not n _ PageWaiting _ (inr (not-true _ (every-at 2 _ other)))
    (number-not n _ BadRecord _ (inr (not-true _ (every-at 3 _ other)))
    (number-not n _ PageStarted _ (inr (not-true _ (every-at 4 _ other)))
    (number-check n _ _ (not-true _ (every-at 5 _ other))
    (number-not n _ TooShort _ (inr (not-true _ (every-at 6 _ other)))
    (number-not n _ TwoPages [] (inl (le-ltb 1 _ (one-page-only k (decode i.byte)))) (number-none n (not-true _ (every-at 0 _ other))))))))))
not-given n k (compose m out) nine other =
    number-not n _ BadStore _ nine
    (number-not n _ NoPage _ (inr (not-true _ (every-at 1 _ other)))
    (number-not n _ BadIndex _ (inr (not-true _ (every-at 2 _ other)))
    (number-not n _ TooShort [] (inr (not-true _ (every-at 3 _ other))) (number-none n (not-true _ (every-at 0 _ other))))))
not-given n k release nine other =
    number-not n _ BadStore _ nine
    (number-not n _ NoPage _ (inr (not-true _ (every-at 1 _ other)))
    (number-not n _ MostBetween [] (inr (not-true _ (every-at 2 _ other))) (number-none n (not-true _ (every-at 0 _ other)))))
not-given n k (tally t) nine other =
    number-not n _ BadStore _ nine
    (number-not n _ NoneBetween [] (inr (not-true _ (every-at 1 _ other))) (number-none n (not-true _ (every-at 0 _ other))))

-- So contents that a printer can have get no 9, number 10 is Start's alone, and 11 is never given.
unnamed : (n : ℕ) → none_of (from 0 9 ++ (12 ∷ 13 ∷ [])) n ≡ true → (c : Call) → none_of (numbers_of c) n ≡ true
unnamed n e (command i) = every_of (also (every-at 0 _ e) (also (every-at 1 _ e) (also (every-at 4 _ e) (also (every-at 2 _ e) (also (every-at 5 _ e) (also (every-at 3 _ e) (also (every-at 8 _ e) finally)))))))
unnamed n e (compose m out) = every_of (also (every-at 0 _ e) (also (every-at 6 _ e) (also (every-at 7 _ e) (also (every-at 8 _ e) finally))))
unnamed n e release = every_of (also (every-at 0 _ e) (also (every-at 6 _ e) (also (every-at 10 _ e) finally)))
unnamed n e (tally t) = every_of (also (every-at 0 _ e) (also (every-at 9 _ e) finally))

pub no_9 : (k : Core) (c : Call) → core_ok k ≡ true → eqb (number_of (refusal_of k c)) 9 ≡ false
unfolding every
no_9 k c e = not-given 9 k c (inl (ap not e)) (unnamed 9 refl c)

never-10 : (k : Core) (c : Call) → eqb (number_of (refusal_of k c)) 10 ≡ false
unfolding every
never-10 k c = not-given 10 k c (inr refl) (unnamed 10 refl c)

pub never-11 : (k : Core) (c : Call) → eqb (number_of (refusal_of k c)) 11 ≡ false
unfolding every
never-11 k c = not-given 11 k c (inr refl) (unnamed 11 refl c)

-- Refusals other than 1, 3 and 5 leave the sense too.
pub refused-keeps : (w : World) (c : Call) → is_accepted (refusal_of w.core c) ≡ false → tells (refusal_of w.core c) ≡ false → (step w c).world ≡ w
refused-keeps w c e h =
    ap (λ (o : Outcome). o.world) (refused-step w c e) ∙ rw (sense-kept (size_of c) (refusal_of w.core c) h (never-10 w.core c))

-- A call whose order names none of 1, 3 and 5 keeps the sense where it is refused. Such are all calls except commands.
quietly : (k : Core) (c : Call) → every (map (none_of (numbers_of c)) (1 ∷ 3 ∷ 5 ∷ [])) ≡ true → tells (refusal_of k c) ≡ false
quietly k c e =
    let one : eqb (number_of (refusal_of k c)) 1 ≡ false = not-given 1 k c (inr refl) (every-at 0 _ e) in
    let three : eqb (number_of (refusal_of k c)) 3 ≡ false = not-given 3 k c (inr refl) (every-at 1 _ e) in
    let five : eqb (number_of (refusal_of k c)) 5 ≡ false = not-given 5 k c (inr refl) (every-at 2 _ e) in
    rw (one, three, five)

-- So Compose leaves all as it was, and a refused Release, report, cancel or restart does.
pub compose-keeps : (w : World) (n : ℕ) (out : List ℕ) → (step w (compose n out)).world ≡ w
unfolding step refused perform do_compose every
compose-keeps w n out =
    by-outcome (λ (e : Effect). record { core = e.core; sense = sense_after w.sense e.sense } ≡ w) w.core (compose n out) (λ a. refl)
    (λ a. rw (sense-kept 0 (refusal_of w.core (compose n out)) (quietly w.core (compose n out) refl) (never-10 w.core (compose n out))))

pub release-keeps : (w : World) → is_accepted (refusal_of w.core release) ≡ false → (step w release).world ≡ w
unfolding every
release-keeps w e = refused-keeps w release e (quietly w.core release refl)

pub tally-keeps : (w : World) (t : Tally) → is_accepted (refusal_of w.core (tally t)) ≡ false → (step w (tally t)).world ≡ w
unfolding every
tally-keeps w t e = refused-keeps w (tally t) e (quietly w.core (tally t) refl)

-- The number given is that of the first test of the order which holds, and only of that: Accepted exactly where none does.
pub first-given : (k : Core) (c : Call) → First Accepted (tests_of k c) (refusal_of k c)
unfolding refusal_of
first-given k c = first-is Accepted (tests_of k c)

pub only-first : (k : Core) (c : Call) (x : Refusal) → First Accepted (tests_of k c) x → refusal_of k c ≡ x
unfolding refusal_of
only-first k c x f = first-only f

pub start_first : (a : Asked) (m : Stores) → First Accepted (start_tests a m) (start_refusal a m)
unfolding start_refusal
start_first a m = first-is Accepted (start_tests a m)

pub start-only : (a : Asked) (m : Stores) (x : Refusal) → First Accepted (start_tests a m) x → start_refusal a m ≡ x
unfolding start_refusal
start-only a m x f = first-only f

-- Stores of a wrong size, or contents no printer has: 9 from every call, and nothing changes.
pub bad-store : (k : Core) (c : Call) → core_ok k ≡ false → refusal_of k c ≡ BadStore
unfolding refusal_of first_or when
bad-store k (command i) e = rw e
bad-store k (compose n out) e = rw e
bad-store k release e = rw e
bad-store k (tally t) e = rw e

pub nine : (w : World) (c : Call) → core_ok w.core ≡ false → step w c ≡ record { answer = only BadStore 0; buffer = lent c; world = w }
unfolding is_accepted row_of
nine w c e = refused-step w c (ap is_accepted (bad-store w.core c e)) ∙ rw (bad-store w.core c e)

-- A refused Start hands back a state of all zeros and leaves the stores; every call except Start refuses that state with 9, whatever the stores.
pub refused-start : (a : Asked) (m : Stores) → is_accepted (start_refusal a m) ≡ false
    → start_outcome a m ≡ record { answer = only (start_refusal a m) (row_of 0 (start_refusal a m)).status; buffer = []; world = no_printer m }
unfolding start_outcome
refused-start a m e = rw e

zeros-bad : (m : Stores) → core_ok (no_printer m).core ≡ false
unfolding core_ok every no_printer no_state ranges_ok form_ok form_lengths
zeros-bad m = and-false (sizes_ok m)

pub zeros-nine : (m : Stores) (c : Call) → step (no_printer m) c ≡ record { answer = only BadStore 0; buffer = lent c; world = no_printer m }
zeros-nine m c = nine (no_printer m) c (zeros-bad m)
