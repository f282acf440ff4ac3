-- What one segment shows on a copy, cell by cell, and the walk over stored legends.
use Prim.Native.Nat.{ℕ, zero, suc, ◌+◌, ◌*◌, ◌-◌, ◌≤◌, ◌<◌, min}
use mathlib.Core.Path.{◌≡◌, refl, sym, ap, ◌∙◌}
use mathlib.Core.Bool.{Bool, true, false, cond, ◌&&◌, false≢true}
use mathlib.Core.List.{List, [], ◌∷◌, ◌++◌, map}
use native.Mathlib.Nat.{zero-add, add-zero, le_of_suc-le-suc, not-suc-le-zero}
use native.Mathlib.Omega.{arith}
use lib.ListN.{length, get_or, take, drop, length-map, length-drop}
use lib.Seq.{drop_at, take-add, take-take, get_or-take, length-take-le, ext_get_or}
use lib.Dec.{leb, ltb, lit<}
use borrow.Author.Tests.{leb-true, ltb-true, le-leb, lt-ltb, ltb-false}
use Rattle.seq.proofs.Laws.{and_left, and_right, and_both}
use Rattle.seq.proofs.Loops.{get_or-map}
use Rattle.seq.proofs.Put.{put, length-put, put-before, put_in, put-after}
use Rattle.numbers.specs.Sizes.{cell_bytes, line_width, line_bytes}
use Rattle.numbers.specs.Numbers.{is_sound}
use Rattle.line.specs.declared.Cell.{Cell}
use Rattle.line.specs.Cells.{unruled, stored, cells_in}
use Rattle.line.proofs.StoredLaws.{length-cells, cells-put}
use Rattle.legends.specs.declared.Head.{Head}
use Rattle.legends.specs.Legends.{head_size, head_of, Segment, segment_of, segment_length, bad_head, stored_segments, legends_ok}
use Rattle.legends.specs.Legends.{among, covers, shown, line_of, position_of, copy_from}
use Rattle.legends.proofs.SegmentLaws.{found, rest, SoundFirst, sound-first, byte-set, ends-in-line, stored_next, cut-end}
use Rattle.legends.proofs.StoredLaws.{first-set, ok-sound, ok-front}

-- A copy as a list: its length, its cells; no segment leaves the page, and segments show one after the other.
pub length-copy_from : (gs : List Segment) (number i : ℕ) (cs : List Cell) → length (copy_from gs number i cs) ≡ length cs
unfolding copy_from
length-copy_from gs number i [] = refl
length-copy_from gs number i (c ∷ cs) = ap suc (length-copy_from gs number (suc i) cs)

get_or-copy_from : (gs : List Segment) (number i k : ℕ) (cs : List Cell) → k < length cs
    → get_or (copy_from gs number i cs) k (unruled 0) ≡ shown gs number (line_of (i + k)) (position_of (i + k)) (get_or cs k (unruled 0))
unfolding copy_from
get_or-copy_from gs number i k [] h = absurd (not-suc-le-zero h)
get_or-copy_from gs number i zero (c ∷ cs) h = rw (add-zero i) refl
get_or-copy_from gs number i (suc k) (c ∷ cs) h =
    let next : suc i + k ≡ i + suc k = omega arith in
    rw (← next) (get_or-copy_from gs number (suc i) k cs (le_of_suc-le-suc h))

copy-none : (number i : ℕ) (cs : List Cell) → copy_from [] number i cs ≡ cs
unfolding copy_from shown
copy-none number i [] = refl
copy-none number i (c ∷ cs) = ap (λ (l : List Cell). c ∷ l) (copy-none number (suc i) cs)

copy-cons : (g : Segment) (gs : List Segment) (number i : ℕ) (cs : List Cell)
    → copy_from (g ∷ gs) number i cs ≡ copy_from gs number i (copy_from (g ∷ []) number i cs)
unfolding copy_from shown
copy-cons g gs number i [] = refl
copy-cons g gs number i (c ∷ cs) = rw (copy-cons g gs number (suc i) cs) refl

-- Where a segment covers a cell, as inequalities.
abbrev pub Among : ℕ → ℕ → ℕ → Type 0
Among a n x = (a ≤ x) × (x < a + n)

abbrev Covered : Segment → ℕ → ℕ → ℕ → Type 0
Covered g number line position =
    Among g.first_copy g.copies number × (Among g.first_line g.lines line × Among g.first_position g.positions position)

among-gives : (a n x : ℕ) → among a n x ≡ true → Among a n x
among-gives a n x e = (leb-true a x (and_left (leb a x) (ltb x (a + n)) e), ltb-true x (a + n) (and_right (leb a x) (ltb x (a + n)) e))

among_in : (a n x : ℕ) → Among a n x → among a n x ≡ true
among_in a n x h = and_both (le-leb a x h.0) (lt-ltb x (a + n) h.1)

covers-gives : (g : Segment) (number line position : ℕ) → covers g number line position ≡ true → Covered g number line position
unfolding covers
covers-gives g number line position e =
    let a = among g.first_copy g.copies number in
    let b = among g.first_line g.lines line in
    let c = among g.first_position g.positions position in
    let ab : (a && b) ≡ true = and_left (a && b) c e in
    (among-gives _ _ number (and_left a b ab), (among-gives _ _ line (and_right a b ab), among-gives _ _ position (and_right (a && b) c e)))

covers-in : (g : Segment) (number line position : ℕ) → Covered g number line position → covers g number line position ≡ true
unfolding covers
covers-in g number line position c = and_both (and_both (among_in _ _ number c.0) (among_in _ _ line c.1.0)) (among_in _ _ position c.1.1)

same_test : (a b : Bool) → (a ≡ true → b ≡ true) → (b ≡ true → a ≡ true) → a ≡ b
same_test true b f g = sym (f refl)
same_test false true f g = g refl
same_test false false f g = refl

covers-same : (g h : Segment) (n m line position : ℕ) → (Covered g n line position → Covered h m line position)
    → (Covered h m line position → Covered g n line position) → covers g n line position ≡ covers h m line position
covers-same g h n m line position to back =
    same_test _ _ (λ e. covers-in h m line position (to (covers-gives g n line position e)))
    (λ e. covers-in g n line position (back (covers-gives h m line position e)))

not_covered : (g : Segment) (number line position : ℕ) → (Covered g number line position → ⊥) → covers g number line position ≡ false
not_covered g number line position none = same_test _ false (λ e. absurd (none (covers-gives g number line position e))) (λ e. absurd (false≢true e))

-- What one segment makes of cell k.
module _ (g : Segment) (number : ℕ) where
  abbrev over : ℕ → Cell → Cell
  over k c = cond (covers g number (line_of k) (position_of k)) (unruled (get_or g.text (position_of k - g.first_position) 0)) c

  get_or-over : (k : ℕ) (cs : List Cell) → k < length cs → get_or (copy_from (g ∷ []) number 0 cs) k (unruled 0) ≡ over k (get_or cs k (unruled 0))
  unfolding shown
  get_or-over k cs h = get_or-copy_from (g ∷ []) number 0 k cs h ∙ rw (zero-add k) refl

  copy_is : (old new : List Cell) → length new ≡ length old → ((k : ℕ) → k < length old → get_or new k (unruled 0) ≡ over k (get_or old k (unruled 0)))
      → new ≡ copy_from (g ∷ []) number 0 old
  copy_is old new l f =
      ext_get_or (unruled 0) new (copy_from (g ∷ []) number 0 old) (l ∙ sym (length-copy_from (g ∷ []) number 0 old))
      (λ k h. let h' : k < length old = omega (arith, l, h) in f k h' ∙ sym (get_or-over k old h'))

  -- a segment that covers no cell leaves all
  copy-same : (old : List Cell) → ((k : ℕ) → k < length old → covers g number (line_of k) (position_of k) ≡ false) → old ≡ copy_from (g ∷ []) number 0 old
  copy-same old f = copy_is old old refl (λ k h. rw (f k h) refl)

-- Two segments of one text and first position that cover the same cells show the same.
copy-alike : (g h : Segment) (n m : ℕ) (old : List Cell) → g.text ≡ h.text → g.first_position ≡ h.first_position
    → ((k : ℕ) → k < length old → covers g n (line_of k) (position_of k) ≡ covers h m (line_of k) (position_of k))
    → copy_from (g ∷ []) n 0 old ≡ copy_from (h ∷ []) m 0 old
copy-alike g h n m old t p f =
    copy_is h m old (copy_from (g ∷ []) n 0 old) (length-copy_from (g ∷ []) n 0 old)
    (λ k l. get_or-over g n k old l ∙ rw (f k l, t, p) refl)

-- A text in several rows, as a segment for copy 0 alone: in none, and in a row more.
abbrev pub text_rows : List ℕ → ℕ → ℕ → ℕ → Segment
text_rows text row place past =
    record { first_copy = 0; copies = 1; first_line = row + 1; lines = past - row; first_position = place + 1; positions = length text; text = text }

module _ (text : List ℕ) (old : List Cell) (row place : ℕ) where
  abbrev rows : ℕ → Segment
  rows = text_rows text row place

  pub rows_none : (past : ℕ) → past ≤ row → old ≡ copy_from (rows past ∷ []) 0 0 old
  rows_none past h = copy-same (rows past) 0 old (λ k l. not_covered (rows past) 0 _ _ (λ c. omega (arith, h, c)))

  module _ (i : ℕ) (out : List Cell) (later : row ≤ i) (narrow : place + length text ≤ line_width) (room : (i + 1) * line_width ≤ length old)
      (e : out ≡ copy_from (rows i ∷ []) 0 0 old) where
    abbrev at : ℕ
    at = i * line_width + place

    abbrev cells : List Cell
    cells = map unruled text

    as_long : length cells ≡ length text
    as_long = length-map text unruled

    same_size : length out ≡ length old
    same_size = ap length e ∙ length-copy_from (rows i ∷ []) 0 0 old

    fits-row : at + length cells ≤ length out
    fits-row = omega (arith, as_long, same_size, narrow, room)

    -- outside the text of this row, the row more covers what was covered
    outside : (k : ℕ) → k < length old → (Covered (rows (i + 1)) 0 (line_of k) (position_of k) → line_of k ≤ i)
        → get_or out k (unruled 0) ≡ over (rows (i + 1)) 0 k (get_or old k (unruled 0))
    outside k h f =
        let t = covers-same (rows i) (rows (i + 1)) 0 0 (line_of k) (position_of k) (λ c. (c.0, ((c.1.0.0, omega (arith, c)), c.1.1)))
        (λ c. (c.0, ((c.1.0.0, omega (arith, c, f c)), c.1.1))) in
        ap (λ (l : List Cell). get_or l k (unruled 0)) e ∙ get_or-over (rows i) 0 k old h ∙ rw t refl

    inside : (k : ℕ) → at ≤ k → k < at + length text → get_or cells (k - at) (unruled 0) ≡ over (rows (i + 1)) 0 k (get_or old k (unruled 0))
    inside k h l =
        let t = covers-in (rows (i + 1)) 0 (line_of k) (position_of k)
        ((omega arith, omega arith), ((omega arith, omega arith), (omega arith, omega arith))) in
        let p : position_of k - (place + 1) ≡ k - at = omega arith in
        rw (t, p) (get_or-map unruled 0 (unruled 0) (k - at) text (omega arith))

    abbrev Right : ℕ → Type 0
    Right k = get_or (put at cells out) k (unruled 0) ≡ over (rows (i + 1)) 0 k (get_or old k (unruled 0))

    each : (k : ℕ) → k < length old → Right k
    each k h = go (ltb k at) (ltb k (at + length text)) refl refl
      where
        go : (a b : Bool) → ltb k at ≡ a → ltb k (at + length text) ≡ b → Right k
        go true b u v =
            let l : k < at = ltb-true k at u in
            put-before (unruled 0) at cells out fits-row k l ∙ outside k h (λ c. omega (arith, c))
        go false true u v =
            let l : at ≤ k = ltb-false k at u in
            let m : k < at + length text = ltb-true k (at + length text) v in
            put_in (unruled 0) at cells out fits-row k l (rw as_long m) ∙ inside k l m
        go false false u v =
            let m : at + length text ≤ k = ltb-false k (at + length text) v in
            put-after (unruled 0) at cells out fits-row k (rw as_long m) ∙ outside k h (λ c. omega (arith, c))

    pub rows_more : take at out ++ (cells ++ drop (length cells) (drop at out)) ≡ copy_from (rows (i + 1) ∷ []) 0 0 old
    rows_more = copy_is (rows (i + 1)) 0 old (put at cells out) (length-put (unruled 0) at cells out fits-row ∙ same_size) each

-- The same in bytes: the text's cells put over the row's.
pub rows-put : (text old out new : List ℕ) (row place i n : ℕ) → row ≤ i → place + length text ≤ line_width → (i + 1) * line_bytes ≤ length old
    → length out ≡ length old → cells_in out ≡ copy_from (text_rows text row place i ∷ []) 0 0 (cells_in old) → new ≡ stored (map unruled text)
    → n ≡ cell_bytes * length text
    → (let at = cell_bytes * (i * line_width + place) in
    cells_in (take at out ++ (new ++ drop n (drop at out))) ≡ copy_from (text_rows text row place (i + 1) ∷ []) 0 0 (cells_in old))
rows-put text old out new row place i n later narrow room size e w long =
    let at = i * line_width + place in
    let wide : n ≡ cell_bytes * length (map unruled text) = long ∙ ap (λ (m : ℕ). cell_bytes * m) (sym (length-map text unruled)) in
    let cells : (i + 1) * line_width ≤ length (cells_in old) = rw (length-cells old) (omega arith) in
    (λ j. cells_in (take (cell_bytes * at) out ++ (w j ++ drop (wide j) (drop (cell_bytes * at) out))))
    ∙ cells-put at (map unruled text) out (omega arith)
    ∙ rows_more text (cells_in old) row place i (cells_in out) later narrow cells e

-- A segment of other copies leaves all; of this copy, its rows as far as there are lines show it.
other-copy : (g : Segment) (number : ℕ) (old : List Cell) → (Among g.first_copy g.copies number → ⊥) → old ≡ copy_from (g ∷ []) number 0 old
other-copy g number old none = copy-same g number old (λ k h. not_covered g number _ _ (λ c. none c.0))

abbrev rows_of : Segment → ℕ → Segment
rows_of g lines = text_rows g.text (g.first_line - 1) (g.first_position - 1) (min (g.first_line - 1 + g.lines) lines)

this-copy : (g : Segment) (number lines : ℕ) (old : List Cell) → Among g.first_copy g.copies number → 1 ≤ g.first_line → 1 ≤ g.first_position
    → length g.text ≡ g.positions → length old ≡ line_width * lines → copy_from (rows_of g lines ∷ []) 0 0 old ≡ copy_from (g ∷ []) number 0 old
this-copy g number lines old a line position size room =
    copy-alike (rows_of g lines) g 0 number old refl (omega arith)
    (λ k m. covers-same (rows_of g lines) g 0 number (line_of k) (position_of k)
    (λ c. (a, ((omega (arith, c), omega (arith, c)), (omega (arith, c), omega (arith, c)))))
    (λ c. ((omega arith, omega arith), ((omega (arith, c), omega (arith, c)), (omega (arith, c), omega (arith, c))))))

-- What the head of a sound segment says of where its text goes.
pub record Placed (h : Head) : Type 0 where
  pub line : 1 ≤ h.first_line
  pub position : 1 ≤ h.first_position
  pub ends : h.first_position + h.positions ≤ line_width + 1

module _ (l : List ℕ) (h : Head) (e : h ≡ head_of l) (sound : bad_head l ≡ false) (size : segment_length l ≤ length l) where
  abbrev w : SoundFirst l
  w = record { head = sound; size = size }

  pub placed : Placed h
  placed = rw e (record { line = byte-set l w 2 (lit< tt); position = byte-set l w 4 (lit< tt); ends = ends-in-line l w })

  pub length-text : length (segment_of l).text ≡ h.positions
  unfolding segment_of
  length-text = rw e (length-take-le _ (drop head_size l) (omega (arith, length-drop head_size l, w.size)))

  module _ (number : ℕ) (old : List Cell) where
    pub other-segment : (Among h.first_copy h.copies number → ⊥) → old ≡ copy_from (segment_of l ∷ []) number 0 old
    unfolding segment_of
    other-segment none = other-copy (segment_of l) number old (rw e at none)

    pub this-segment : (lines : ℕ) → Among h.first_copy h.copies number → length old ≡ line_width * lines
        → copy_from (text_rows (segment_of l).text (h.first_line - 1) (h.first_position - 1) (min (h.first_line - 1 + h.lines) lines) ∷ []) 0 0 old
        ≡ copy_from (segment_of l ∷ []) number 0 old
    unfolding segment_of
    this-segment lines a room =
        rw e (this-copy (segment_of l) number lines old (rw e at a) (rw e at placed.line) (rw e at placed.position) (length-text ∙ rw e refl) room)

-- A segment cut off is the one at the front of the bytes it was cut from.
segment-front : (s : List ℕ) → head_size ≤ length s → segment_of (take (segment_length s) s) ≡ segment_of s
unfolding segment_of
segment-front s h =
    let m = segment_length s in
    let at : (k : ℕ) → k < head_size → get_or (take m s) k 0 ≡ get_or s k 0 = λ k j. get_or-take m s k 0 (omega arith) in
    let text : drop head_size (take m s) ≡ take (get_or s 5 0) (drop head_size s)
    = ap (drop head_size) (take-add head_size (get_or s 5 0) s)
    ∙ drop_at (take head_size s) (take (get_or s 5 0) (drop head_size s)) head_size (length-take-le head_size s h) in
    rw (
      text,
      at 0 (lit< tt),
      at 1 (lit< tt),
      at 2 (lit< tt),
      at 3 (lit< tt),
      at 4 (lit< tt),
      at 5 (lit< tt),
      take-take (get_or s 5 0) (get_or s 5 0) (drop head_size s) (omega arith),
    )
    refl

-- The walk over stored legends: those that are left are such as a printer can have, and lead from `out` to the goal.
pub record Left (l : List ℕ) (number : ℕ) (out goal : List Cell) : Type 0 where
  pub ok : legends_ok l ≡ true
  pub leads : copy_from (map segment_of (stored_segments l)) number 0 out ≡ goal

pub left_end : (l : List ℕ) (number : ℕ) (out goal : List Cell) → get_or l 0 0 ≡ 0 → Left l number out goal → out ≡ goal
unfolding stored_segments
left_end l number out goal z w = sym (copy-none number 0 out) ∙ (rw (cut-end (length l) l z) at w.leads)

module _ (l : List ℕ) (number : ℕ) (out goal : List Cell) (some : get_or l 0 0 ≡ 0 → ⊥) (left : Left l number out goal) where
  sound : is_sound (found l) ≡ true
  sound = ok-front l left.ok some

  pub left_here : SoundFirst l
  left_here = sound-first l sound

  pub left_step : Left (rest l) number (copy_from (segment_of l ∷ []) number 0 out) goal
  left_step =
      let w = left_here in
      let cuts = stored_next l (omega (arith, w.size)) (first-set l w) in
      let c = copy-cons (segment_of l) (map segment_of (stored_segments (rest l))) number 0 out in
      record { ok = sym (ok-sound l sound) ∙ left.ok; leads = rw (cuts, segment-front l (omega (arith, w.size)), c) at left.leads }
