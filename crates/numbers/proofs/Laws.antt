-- Laws of the checks and of the table of numbers.
use Prim.Native.Nat.{ℕ, ◌≤◌}
use lib.Dec.{eqb, lit≤}
use mathlib.Core.Path.{◌≡◌, refl, sym, ap, ◌∙◌}
use mathlib.Core.Bool.{Bool, true, false, true≢false, false≢true}
use mathlib.Core.Option.{Option}
use mathlib.Core.Logic.{◌⊎◌, inl, inr}
use mathlib.Core.List.{List, [], ◌∷◌, ◌++◌, map}
use native.Mathlib.Omega.{arith}
use borrow.Author.Tests.{eq-eqb}
use Rattle.seq.specs.Words.{first_or, when, listed, from}
use Rattle.std.specs.Prelude.{Ok, Err}
use Rattle.numbers.specs.Numbers.{Checked}
use Rattle.seq.proofs.Laws.{First, later}
use Rattle.numbers.specs.declared.Cause.{Cause}
use Rattle.numbers.specs.declared.Cause.TheVariants.{FcbChannel, FcbSpacing, FcbSum, FcbEdge, TableShort, SequencePairs, SequenceCounts, NumberRecord, SegmentEnds, SegmentFields}
use Rattle.numbers.specs.declared.Refusal.{Refusal}
use Rattle.numbers.specs.declared.Refusal.TheVariants.{Accepted, NotListed, BadRecord, LoadCheck, PageWaiting, PageStarted, NoPage, BadIndex, TooShort, BadStore, BadForm, TwoPages, NoneBetween, MostBetween, BadPaper}
use Rattle.numbers.specs.declared.Row.{Row}
use Rattle.numbers.specs.declared.SenseStep.{SenseStep}
use Rattle.numbers.specs.declared.SenseStep.TheVariants.{Keep, Anew, NoSense}
use Rattle.numbers.specs.Numbers.{row_with, cause_of, row_of, number_of, is_accepted, checked, is_sound}

-- Numbers 0 to 13 and 16, and causes 1 to 10, in the order in which they are declared.
pub every-number : map number_of
    (Accepted ∷ NotListed ∷ BadRecord ∷ LoadCheck FcbSum ∷ PageWaiting ∷ PageStarted ∷ NoPage ∷ BadIndex ∷ TooShort ∷ BadStore ∷ BadForm ∷ TwoPages
    ∷ NoneBetween ∷ MostBetween ∷ BadPaper ∷ [])
    ≡ from 0 14 ++ 16 ∷ []
unfolding row_of
every-number = refl

pub every-cause : map (λ c. (cause_of 0 c).number)
    (FcbChannel ∷ FcbSpacing ∷ FcbSum ∷ FcbEdge ∷ TableShort ∷ SequencePairs ∷ SequenceCounts ∷ NumberRecord ∷ SegmentEnds ∷ SegmentFields ∷ [])
    ≡ from 1 10
unfolding cause_of
every-cause = refl

-- a fault is not sound, and what is sound is `Ok tt`
pub faulty : {c : Cause} → ◌≡◌ {A = Checked} (Err c) (Ok tt) → ⊥
faulty e = let z : ◌≡◌ {A = ℕ} 0 1 = cc in omega arith

pub sound-is : (d : Checked) → is_sound d ≡ true → d ≡ Ok tt
sound-is (Ok tt) e = refl
sound-is (Err c) e = absurd (false≢true e)

-- Refusals 1, 3 and 5 set the sense anew, and the others do not; unit check, 0E, is shown exactly where there is something to tell.
abbrev pub is_anew : SenseStep → Bool
is_anew Keep = false
is_anew (Anew s) = true
is_anew NoSense = false

abbrev telling : ℕ → Bool
telling k = listed (1 ∷ 3 ∷ 5 ∷ []) k

abbrev pub tells : Refusal → Bool
tells x = telling (number_of x)

-- every cause's number is small
cause-most : (n : ℕ) (c : Cause) → (cause_of n c).number ≤ 10
unfolding cause_of
cause-most n FcbChannel = lit≤ tt
cause-most n FcbSpacing = lit≤ tt
cause-most n FcbSum = lit≤ tt
cause-most n FcbEdge = lit≤ tt
cause-most n TableShort = lit≤ tt
cause-most n SequencePairs = lit≤ tt
cause-most n SequenceCounts = lit≤ tt
cause-most n NumberRecord = lit≤ tt
cause-most n SegmentEnds = lit≤ tt
cause-most n SegmentFields = lit≤ tt

abbrev pub most_number : ℕ
most_number = 16

-- busy, the largest status of a row
abbrev pub most_status : ℕ
most_status = 0x10

-- What is known of every row, for any two byte counts: one list of the refusals is enough for all of it.
pub record Facts (n m : ℕ) (x : Refusal) : Type 0 where
  -- number 0 is that of Accepted alone
  pub zero : is_accepted x ≡ true → x ≡ Accepted
  pub anew : is_anew (row_of n x).sense ≡ tells x
  pub check : eqb (row_of n x).status 0x0E ≡ tells x
  -- the others keep it, except a refused Start, which leaves none
  pub keeps : tells x ≡ false → eqb (number_of x) 10 ≡ false → (row_of n x).sense ≡ Keep
  -- number, status and cause fit their fields of a packed answer
  pub number_most : number_of x ≤ most_number
  pub status_most : (row_of n x).status ≤ most_status
  pub cause_most : (row_of n x).cause ≤ 10
  -- the number is the same for all records, and so is the row, but for a load check, whose sense can show the record's byte count
  pub same : ((c : Cause) → x ≡ LoadCheck c → n ≡ m) → row_of n x ≡ row_of m x

-- A refusal that tells nothing: it keeps the sense, names no cause, and has another number than 0, 1, 3 and 5, and another status than 0E.
silent : (n m : ℕ) (x : Refusal) {k s : ℕ} → ((i : ℕ) → row_of i x ≡ row_with k s Keep)
    → eqb k 0 ≡ false → telling k ≡ false → eqb s 0x0E ≡ false → k ≤ most_number → s ≤ most_status → Facts n m x
unfolding is_accepted
silent n m x row other quiet good few low =
    let untold : false ≡ tells x = sym (ap (λ (r : Row). telling r.number) (row 0) ∙ quiet) in
    record {
      zero = λ e. absurd (false≢true (sym other ∙ ap (λ (r : Row). eqb r.number 0) (sym (row 0)) ∙ e));
      anew = rw (row n) untold;
      check = rw (row n) (good ∙ untold);
      keeps = λ t f. rw (row n);
      number_most = rw (number_of, row 0) few;
      status_most = rw (row n) low;
      cause_most = rw (row n) (lit≤ tt);
      same = λ h. row n ∙ sym (row m);
    }

pub facts : (n m : ℕ) (x : Refusal) → Facts n m x
unfolding row_of is_accepted
facts n m Accepted = record { zero = λ e. refl; anew = refl; check = refl; keeps = λ t f. refl; number_most = lit≤ tt; status_most = lit≤ tt; cause_most = lit≤ tt; same = λ h. refl }
facts n m NotListed = record { zero = λ e. absurd (false≢true e); anew = refl; check = refl; keeps = λ t f. absurd (true≢false t); number_most = lit≤ tt; status_most = lit≤ tt; cause_most = lit≤ tt; same = λ h. refl }
facts n m BadRecord = silent n m BadRecord (λ i. refl) refl refl refl (lit≤ tt) (lit≤ tt)
facts n m (LoadCheck c) = record { zero = λ e. absurd (false≢true e); anew = refl; check = refl; keeps = λ t f. absurd (true≢false t); number_most = lit≤ tt; status_most = lit≤ tt; cause_most = cause-most n c; same = λ h. rw (h c refl) }
facts n m PageWaiting = silent n m PageWaiting (λ i. refl) refl refl refl (lit≤ tt) (lit≤ tt)
facts n m PageStarted = record { zero = λ e. absurd (false≢true e); anew = refl; check = refl; keeps = λ t f. absurd (true≢false t); number_most = lit≤ tt; status_most = lit≤ tt; cause_most = lit≤ tt; same = λ h. refl }
facts n m NoPage = silent n m NoPage (λ i. refl) refl refl refl (lit≤ tt) (lit≤ tt)
facts n m BadIndex = silent n m BadIndex (λ i. refl) refl refl refl (lit≤ tt) (lit≤ tt)
facts n m TooShort = silent n m TooShort (λ i. refl) refl refl refl (lit≤ tt) (lit≤ tt)
facts n m BadStore = silent n m BadStore (λ i. refl) refl refl refl (lit≤ tt) (lit≤ tt)
facts n m BadForm = record { zero = λ e. absurd (false≢true e); anew = refl; check = refl; keeps = λ t f. absurd (true≢false f); number_most = lit≤ tt; status_most = lit≤ tt; cause_most = lit≤ tt; same = λ h. refl }
facts n m TwoPages = silent n m TwoPages (λ i. refl) refl refl refl (lit≤ tt) (lit≤ tt)
facts n m NoneBetween = silent n m NoneBetween (λ i. refl) refl refl refl (lit≤ tt) (lit≤ tt)
facts n m MostBetween = silent n m MostBetween (λ i. refl) refl refl refl (lit≤ tt) (lit≤ tt)
facts n m BadPaper = silent n m BadPaper (λ i. refl) refl refl refl (lit≤ tt) (lit≤ tt)

pub accepted-is : (x : Refusal) → is_accepted x ≡ true → x ≡ Accepted
accepted-is x = (facts 0 0 x).zero

pub row_same : (n m : ℕ) (x : Refusal) → ((c : Cause) → x ≡ LoadCheck c → n ≡ m) → row_of n x ≡ row_of m x
row_same n m x = (facts n m x).same

pub sense-kept : (n : ℕ) (x : Refusal) → tells x ≡ false → eqb (number_of x) 10 ≡ false → (row_of n x).sense ≡ Keep
sense-kept n x = (facts n n x).keeps

pub anew-exactly : (n : ℕ) (x : Refusal) → is_anew (row_of n x).sense ≡ tells x
anew-exactly n x = (facts n n x).anew

pub check-exactly : (n : ℕ) (x : Refusal) → eqb (row_of n x).status 0x0E ≡ tells x
check-exactly n x = (facts n n x).check

pub not-accepted : {x : Refusal} → is_accepted x ≡ false → x ≡ Accepted → ⊥
unfolding is_accepted row_of
not-accepted n e = true≢false (sym (ap is_accepted e) ∙ n)

-- where none of an order held, a load's check found nothing
pub passed-check : (d : Checked) (ts : List (Option Refusal)) → first_or Accepted (checked d ∷ ts) ≡ Accepted → (d ≡ Ok tt) ×
    (first_or Accepted ts ≡ Accepted)
unfolding first_or checked is_accepted row_of
passed-check (Ok tt) ts e = (refl, e)
passed-check (Err c) ts e = absurd (not-accepted {x = LoadCheck c} refl e)

-- an order that gives another number than its first entry has goes on after it
pub goes_on : (x : Refusal) {y : Refusal} (b : Bool) (ts : List (Option Refusal)) → eqb (number_of x) (number_of y) ≡ false
    → first_or Accepted (when b x ∷ ts) ≡ y → (b ≡ false) × (first_or Accepted ts ≡ y)
unfolding first_or when
goes_on x true ts n e = absurd (false≢true (sym n ∙ eq-eqb _ _ (ap number_of e)))
goes_on x false ts n e = (refl, e)

-- a load's check that finds nothing, as an entry of an order
pub check-pass : {d : Checked} {x : Refusal} {ts : List (Option Refusal)} → d ≡ Ok tt → First Accepted ts x → First Accepted (checked d ∷ ts) x
unfolding checked
check-pass e f = rw e (later f)

-- an order gives no number that none of its refusals has
pub number-not : (n : ℕ) (b : Bool) (x : Refusal) (ts : List (Option Refusal)) → (b ≡ false) ⊎ (eqb (number_of x) n ≡ false)
    → eqb (number_of (first_or Accepted ts)) n ≡ false → eqb (number_of (first_or Accepted (when b x ∷ ts))) n ≡ false
unfolding first_or when
number-not n true x ts (inl e) h = absurd (true≢false e)
number-not n true x ts (inr e) h = e
number-not n false x ts e h = h

pub number-check : (n : ℕ) (d : Checked) (ts : List (Option Refusal)) → eqb 3 n ≡ false
    → eqb (number_of (first_or Accepted ts)) n ≡ false → eqb (number_of (first_or Accepted (checked d ∷ ts))) n ≡ false
unfolding first_or checked row_of
number-check n (Ok tt) ts e h = h
number-check n (Err c) ts e h = e

pub number-none : (n : ℕ) → eqb 0 n ≡ false → eqb (number_of (first_or Accepted [])) n ≡ false
unfolding row_of first_or
number-none n e = e
