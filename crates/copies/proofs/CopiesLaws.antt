-- Overlay sequences, copy numbers and translate tables: the pairs of a record step by step, and what the checks leave true of an accepted one.
use Rattle.std.proofs.Common.{◌≡◌, ℕ, suc, ◌/◌, ◌%◌, ◌≤◌, true, not, ◌&&◌, eqb, leb, List, [], ◌∷◌, map, length, get_or, replicate, refl, ap, arith, ltb-false, eqb-true, leb-true}
use Rattle.std.specs.Prelude.{Ok, Err}
use mathlib.Core.List.{flatten}
use Rattle.std.specs.Simd.{first_chunks}
use borrow.Author.Tests.{eqb-false, not-true, not-false}
use Rattle.seq.specs.Words.{any, when, first_or, zeros}
use Rattle.seq.proofs.Laws.{and_left, and_right, or_right, passed}
use Rattle.numbers.specs.Sizes.{slot_size}
use Rattle.numbers.specs.declared.Cause.TheVariants.{SequencePairs, SequenceCounts, NumberRecord}
use Rattle.numbers.proofs.Laws.{faulty}
use Rattle.copies.specs.declared.Copies.{Copies}
use Rattle.copies.specs.Copies.{pair_size, most_copies, table_check, pairs_of, pair_of, copies_of, whole_pairs, bad_pair, sequence_check, mark_in, number_check, copy_number}

-- The pairs of a record are its chunks of two.
pub chunked : (r : List ℕ) → map pair_of (first_chunks 2 (length r / 2) r) ≡ pairs_of r
unfolding pairs_of
chunked [] = refl
chunked (n ∷ []) = refl
chunked (n ∷ m ∷ r) = let e : suc (suc (length r)) / 2 ≡ suc (length r / 2) = omega arith in rw e (ap (λ ps. (n, m) ∷ ps) (chunked r))

pub table-long : (r : List ℕ) → table_check r ≡ Ok tt → slot_size ≤ length r
unfolding table_check
table-long r e = ltb-false (length r) slot_size (passed _ _ faulty e).0

-- Whole pairs are an even number of bytes, and fit the array.
pub pairs-even : (n : ℕ) → whole_pairs n ≡ true → n % 2 ≡ 0
pairs-even n w = eqb-true _ _ (and_left _ (leb 1 (n / 2)) (and_left _ (leb (n / 2) 8) w))

pub pairs-fit : (n : ℕ) → whole_pairs n ≡ true → n ≤ pair_size
pairs-fit n w =
    let few : n / 2 ≤ 8 = leb-true _ _ (and_right (eqb (n % 2) 0 && leb 1 (n / 2)) _ w) in
    omega (arith, pairs-even n w)

pub sequence-fits : (r : List ℕ) → sequence_check r ≡ Ok tt → length r ≤ pair_size
unfolding sequence_check
sequence-fits r e = pairs-fit (length r) (not-false _ (passed _ _ faulty e).0)

pub few-copies : (r : List ℕ) → sequence_check r ≡ Ok tt → copies_of r ≤ most_copies
unfolding sequence_check
few-copies r e = ltb-false most_copies (copies_of r) (or_right (any bad_pair (pairs_of r)) _ (passed _ _ faulty (passed _ _ faulty e).1).0)

pub number-some : (r : List ℕ) → number_check r ≡ Ok tt → 1 ≤ get_or r 0 0
unfolding number_check
number-some r e =
    let one : (eqb (length r) 1 && not (eqb (get_or r 0 0) 0)) ≡ true = not-false _ (passed _ _ faulty e).0 in
    omega (arith, eqb-false (get_or r 0 0) 0 (not-true _ (and_right (eqb (length r) 1) _ one)))

-- Copy numbers are at most 509, and the last one is.
pub number-most : (c : Copies) (k : ℕ) → c.reference ≤ 255 → k ≤ most_copies → copy_number c k ≤ 509
unfolding copy_number
number-most c k r h = omega arith

pub number-last : copy_number (record { pairs = zeros pair_size; count = 0; reference = 255 }) most_copies ≡ 509
unfolding copy_number
number-last = refl

-- Overlay sequences: odd, empty and nine pairs, judged before a zero count; a zero count, another mark, 256 copies; 255 copies in 8 pairs.
pub sequence-table : map sequence_check
    ((0 ∷ 0 ∷ 1 ∷ []) ∷ [] ∷ flatten (replicate 9 (1 ∷ 0 ∷ []))
    ∷ (1 ∷ 0 ∷ 0 ∷ 0 ∷ []) ∷ (1 ∷ 2 ∷ []) ∷ (255 ∷ 0 ∷ 1 ∷ 1 ∷ [])
    ∷ (248 ∷ 0 ∷ flatten (replicate 7 (1 ∷ 1 ∷ [])))
    ∷ [])
    ≡ Err SequencePairs ∷ Err SequencePairs ∷ Err SequencePairs ∷ Err SequenceCounts ∷ Err SequenceCounts ∷ Err SequenceCounts ∷ Ok tt ∷ []
unfolding sequence_check pairs_of copies_of flatten first_or when
sequence-table = refl

-- The mark of each copy of two, one and three.
pub mark-table : map (λ k. mark_in k (pairs_of (2 ∷ 1 ∷ 1 ∷ 0 ∷ 3 ∷ 1 ∷ []))) (1 ∷ 2 ∷ 3 ∷ 4 ∷ 5 ∷ 6 ∷ []) ≡ 1 ∷ 1 ∷ 0 ∷ 1 ∷ 1 ∷ 1 ∷ []
unfolding mark_in pairs_of
mark-table = refl

-- Copy numbers: none, zero and two bytes; one that is not zero.
pub number-table : map number_check ([] ∷ (0 ∷ []) ∷ (1 ∷ 1 ∷ []) ∷ (255 ∷ []) ∷ []) ≡ Err NumberRecord ∷ Err NumberRecord ∷ Err NumberRecord ∷ Ok tt ∷ []
unfolding number_check first_or when
number-table = refl
