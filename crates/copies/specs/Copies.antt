-- Document 01, "Copies and legends": the loads of translate table, overlay sequence and copy number. Every definition here is of that
-- section.
use Rattle.std.specs.Prelude.{ℕ, ◌+◌, ◌-◌, ◌/◌, ◌%◌, Bool, cond, not, ◌&&◌, ◌||◌, List, [], ◌∷◌, map, length, take, ◌==◌, nat_le, nat_lt, slice_index}
use Rattle.std.specs.Prelude.{Ok, Err}
use Rattle.numbers.specs.Numbers.{Checked}
use Rattle.seq.specs.Words.{any, when, first_or, every, total, padded, zero_from}
use Rattle.numbers.specs.Sizes.{slot_size}
use Rattle.numbers.specs.declared.Cause.TheVariants.{TableShort, SequencePairs, SequenceCounts, NumberRecord}
use Rattle.copies.specs.declared.Copies.{Copies}

-- Load translate: a record of fewer than 256 bytes is too short.
unfoldable pub table_check : List ℕ → Checked
table_check r = first_or (Ok tt) (when (nat_lt (length r) slot_size) (Err TableShort) ∷ [])

-- An overlay sequence as pairs of copies and overlay mark, and how many copies it asks for.
unfoldable pub pairs_of : List ℕ → List (ℕ × ℕ)
pairs_of [] = []
pairs_of (n ∷ []) = []
pairs_of (n ∷ m ∷ r) = (n, m) ∷ pairs_of r

-- A pair's two bytes as they stand in a record.
abbrev pub pair_of : List ℕ → ℕ × ℕ
pair_of c = (slice_index c 0, slice_index c 1)

unfoldable pub copies_of : List ℕ → ℕ
copies_of r = total (map (λ p. p.0) (pairs_of r))

-- Load overlay sequence: first that its n bytes are 1 to 8 whole pairs, then that no count is zero, no mark other than 0 or 1 (house), and
-- that the copies are at most 255.
abbrev pub whole_pairs : ℕ → Bool
whole_pairs n = n % 2 == 0 && nat_le 1 (n / 2) && nat_le (n / 2) 8

abbrev pub most_copies : ℕ
most_copies = 255

abbrev pub bad_pair : ℕ × ℕ → Bool
bad_pair p = p.0 == 0 || nat_lt 1 p.1

unfoldable pub sequence_check : List ℕ → Checked
sequence_check r =
    first_or (Ok tt)
    (when (not (whole_pairs (length r))) (Err SequencePairs)
    ∷ when (any bad_pair (pairs_of r) || nat_lt most_copies (copies_of r)) (Err SequenceCounts)
    ∷ [])

-- The mark of the pair that copy k, from 1, falls to.
unfoldable pub mark_in : ℕ → List (ℕ × ℕ) → ℕ
mark_in k [] = 0
mark_in k (p ∷ ps) = let later = mark_in (k - p.0) ps in cond (nat_le k p.0) p.1 later

-- Load copy number: one byte that is not zero (house).
unfoldable pub number_check : List ℕ → Checked
number_check r = first_or (Ok tt) (when (not (length r == 1 && not (slice_index r 0 == 0))) (Err NumberRecord) ∷ [])

-- What the loads leave of sequence and number: the record's bytes with 00 after them, their count, and the reference.
abbrev pub pair_size : ℕ
pair_size = 16

abbrev pub sequence_now : Copies → List ℕ
sequence_now c = take c.count c.pairs

unfoldable pub with_sequence : Copies → List ℕ → Copies
with_sequence c r = record { pairs = padded pair_size r; count = length r; reference = c.reference }

unfoldable pub with_reference : Copies → ℕ → Copies
with_reference c n = record { pairs = c.pairs; count = c.count; reference = n }

-- What it starts with: one copy with mark 0, reference 1.
unfoldable pub start_copies : Copies
start_copies = record { pairs = padded pair_size (1 ∷ 0 ∷ []); count = 2; reference = 1 }

-- The copies of a page: how many, and the number and mark of copy k. A number is not reduced, so it can be as large as 509 (house).
unfoldable pub copy_count : Copies → ℕ
copy_count c = copies_of (sequence_now c)

unfoldable pub copy_number : Copies → ℕ → ℕ
copy_number c k = c.reference + k - 1

unfoldable pub copy_mark : Copies → ℕ → ℕ
copy_mark c k = mark_in k (pairs_of (sequence_now c))

-- The range of these fields: a count within the array, 00 after it, and a reference that is not zero.
unfoldable pub copies_in_range : Copies → Bool
copies_in_range c = every (nat_le c.count pair_size ∷ zero_from c.count c.pairs ∷ nat_le 1 c.reference ∷ [])
