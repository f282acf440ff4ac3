-- Document 01, "Copies and legends": copy modification, stored legends, and the composed copy. Every definition here is of that section, except where it
-- names T-01 or T-03 of document 02.
use Rattle.std.specs.Prelude.{ℕ, zero, suc, ◌+◌, ◌*◌, ◌-◌, ◌/◌, ◌%◌, Bool, false, cond, not, ◌&&◌, ◌||◌, length, get_or, take, drop, eqb, leb, ltb}
use Rattle.std.specs.Prelude.{Ok, Err}
use Rattle.numbers.specs.Numbers.{Checked}
use Rattle.std.proofs.Math.Option.{Option}
use mathlib.Core.List.{List, [], ◌∷◌, ◌++◌, map, flatten}
use Rattle.seq.specs.Words.{any, empty, when, first_or, every, zeros, padded, zero_from}
use Rattle.numbers.specs.declared.Cause.TheVariants.{SegmentEnds, SegmentFields}
use Rattle.numbers.specs.Numbers.{is_sound}
use Rattle.numbers.specs.Sizes.{line_width, line_bytes, legend_size}
use Rattle.line.specs.declared.Cell.{Cell}
use Rattle.legends.specs.declared.Head.{Head}
use Rattle.line.specs.Cells.{unruled, stored, cells_in}

-- A segment, in the order of its six bytes, then its text, which has as many bytes as the segment has positions.
pub record Segment : Type 0 where
  pub first_copy : ℕ
  pub copies : ℕ
  pub first_line : ℕ
  pub lines : ℕ
  pub first_position : ℕ
  pub positions : ℕ
  pub text : List ℕ

abbrev pub head_size : ℕ
head_size = 6

-- Its six bytes alone.
abbrev pub head_of : List ℕ → Head
head_of s =
    record {
      first_copy = get_or s 0 0;
      copies = get_or s 1 0;
      first_line = get_or s 2 0;
      lines = get_or s 3 0;
      first_position = get_or s 4 0;
      positions = get_or s 5 0;
    }

unfoldable pub segment_of : List ℕ → Segment
segment_of s =
    record {
      first_copy = get_or s 0 0;
      copies = get_or s 1 0;
      first_line = get_or s 2 0;
      lines = get_or s 3 0;
      first_position = get_or s 4 0;
      positions = get_or s 5 0;
      text = take (get_or s 5 0) (drop head_size s);
    }

-- How many bytes the segment has that stands at the front of s.
abbrev pub segment_length : List ℕ → ℕ
segment_length s = head_size + get_or s 5 0

-- Six bytes that are faulty: a zero among them, or a first position plus positions that is not from 2 to 205.
unfoldable pub bad_head : List ℕ → Bool
bad_head s = any (λ b. eqb b 0) (take head_size s) || not (leb 2 (get_or s 4 0 + get_or s 5 0) && leb (get_or s 4 0 + get_or s 5 0) 205)

-- The tests of a segment in order: the record ends inside the six bytes; they say what they may not; it ends inside the text.
abbrev pub segment_tests : List ℕ → List (Option Checked)
segment_tests s =
    when (ltb (length s) head_size) (Err SegmentEnds)
    ∷ when (bad_head s) (Err SegmentFields)
    ∷ when (ltb (length s) (segment_length s)) (Err SegmentEnds)
    ∷ []

-- Bytes cut into segments in order, the last one with what is left; what follows a faulty segment is never judged. The cut ends
-- before a first byte at which `ends` holds. n bounds the number of segments.
unfoldable pub cut : (ℕ → Bool) → ℕ → List ℕ → List (List ℕ)
cut ends zero s = []
cut ends (suc n) [] = []
cut ends (suc n) (b ∷ bs) =
    let size = segment_length (b ∷ bs) in
    let rest = cut ends n (drop size (b ∷ bs)) in
    cond (ends b) [] (take size (b ∷ bs) ∷ rest)

-- The segments of a record.
unfoldable pub segments : List ℕ → List (List ℕ)
segments r = cut (λ b. false) (length r) r

-- Load copy modification: the first fault, taking segments in record order; an empty record counts as an end inside one.
unfoldable pub legend_check : List ℕ → Checked
legend_check r = first_or (Ok tt) (when (empty r) (Err SegmentEnds) ∷ flatten (map segment_tests (segments r)))

-- What an accepted load stores: each segment with its text translated, here by f (house), and 00 after the last. A load leaves nothing of
-- the legends before it.
abbrev pub retext : (List ℕ → List ℕ) → List ℕ → List ℕ
retext f s = take head_size s ++ f (drop head_size s)

unfoldable pub stored_legends : (List ℕ → List ℕ) → List ℕ → List ℕ
stored_legends f r = padded legend_size (flatten (map (retext f) (segments r)))

-- T-01: the unprintable positions of a record's texts, one segment's after another's; those of a text, from 1, are here given by f. So the first of all
-- is the place in the text of the first segment that has one.
unfoldable pub unprintable_in_texts : (List ℕ → List ℕ) → List ℕ → List ℕ
unprintable_in_texts f r = flatten (map (λ s. f (drop head_size s)) (segments r))

-- Stored legends: their segments end before a first byte of 00, or at the end of the store.
unfoldable pub stored_segments : List ℕ → List (List ℕ)
stored_segments l = cut (λ b. eqb b 0) (length l) l

-- Legends that a printer can have: none, or such as their load would take; and 00 after them.
unfoldable pub legends_ok : List ℕ → Bool
legends_ok l =
    let r = flatten (stored_segments l) in
    every ((empty r || is_sound (legend_check r)) ∷ zero_from (length r) l ∷ [])

unfoldable pub no_legends : List ℕ
no_legends = zeros legend_size

-- Whether a segment covers a copy number, line and position; x is `among` the n numbers from a on.
abbrev pub among : ℕ → ℕ → ℕ → Bool
among a n x = leb a x && ltb x (a + n)

unfoldable pub covers : Segment → ℕ → ℕ → ℕ → Bool
covers g number line position =
    among g.first_copy g.copies number
    && among g.first_line g.lines line
    && among g.first_position g.positions position

-- The cell at a place of a copy: the text of the last segment that covers it, be it a blank (house), without a mark (T-03), or the page's cell c.
unfoldable pub shown : List Segment → ℕ → ℕ → ℕ → Cell → Cell
shown [] number line position c = c
shown (g ∷ gs) number line position c =
    shown gs number line position (cond (covers g number line position) (unruled (get_or g.text (position - g.first_position) 0)) c)

-- The cells of a copy; i counts the page's cells from 0, and lines and positions count from 1.
abbrev pub line_of : ℕ → ℕ
line_of i = i / line_width + 1

abbrev pub position_of : ℕ → ℕ
position_of i = i % line_width + 1

unfoldable pub copy_from : List Segment → ℕ → ℕ → List Cell → List Cell
copy_from gs number i [] = []
copy_from gs number i (c ∷ cs) = shown gs number (line_of i) (position_of i) c ∷ copy_from gs number (suc i) cs

-- The composed copy with this number: the cells of the page's P lines.
unfoldable pub composed : List ℕ → List ℕ → ℕ → ℕ → List ℕ
composed page legends P number = stored (copy_from (map segment_of (stored_segments legends)) number 0 (cells_in (take (line_bytes * P) page)))
