-- Bad marks: those of a part, and those that words put together by `|` keep.
use Prim.Native.Nat.{ℕ, suc, ◌+◌, ◌*◌, ◌%◌, ◌^◌, ◌≤◌, ◌<◌}
use mathlib.Core.Path.{◌≡◌, refl, sym, ap, ◌∙◌}
use mathlib.Core.Bool.{Bool, true, false, not, ◌&&◌, ◌||◌, or_assoc}
use mathlib.Core.List.{List, [], ◌∷◌}
use native.Mathlib.Omega.{arith}
use lib.Bits.{bit_or, or_lt, or_mod, or_add_and, and_le_l, and_le_r}
use lib.ListN.{length, get_or, take, drop}
use lib.Dec.{leb, ltb}
use borrow.Author.Tests.{leb-true, leb-false, ltb-true, ltb-false, lt-ltb, le-ltb}
use Rattle.seq.specs.Words.{any}
use Rattle.seq.proofs.Loops.{any-more}
use Rattle.line.specs.declared.Cell.{Cell}
use Rattle.line.specs.Cells.{unruled, cells_in, marks_ok}
use Rattle.line.specs.Scan.{bad_mark, bad_word}
use Rattle.line.proofs.StoredLaws.{length-cells, cell_at, cells-take, cells-drop}

-- Good marks are those of cells of which none is bad.
pub marks-by-cells : (bs : List ℕ) → marks_ok bs ≡ not (any bad_mark (cells_in bs))
unfolding marks_ok cells_in
marks-by-cells [] = refl
marks-by-cells (c ∷ []) = refl
marks-by-cells (c ∷ m ∷ bs) = go (leb m 1) (any bad_mark (cells_in bs)) refl (marks-by-cells bs)
  where
    go : (t y : Bool) → leb m 1 ≡ t → marks_ok bs ≡ not y → (t && marks_ok bs) ≡ not (ltb 1 m || y)
    go true y h e = rw (le-ltb 1 m (leb-true m 1 h)) e
    go false y h e = rw (lt-ltb 1 m (leb-false m 1 h)) refl

-- the cells of a part that starts at cell k and has n cells
pub cells-part : (k n : ℕ) (s : List ℕ) → cells_in (take (2 * n) (drop (2 * k) s)) ≡ take n (drop k (cells_in s))
cells-part k n s = cells-take n (drop (2 * k) s) ∙ ap (take n) (cells-drop k s)

-- Tests that hold together are equal.
pub same-ltb : (a b c d : ℕ) → (a < b → c < d) → (c < d → a < b) → ltb a b ≡ ltb c d
same-ltb a b c d to back = go (ltb c d) refl
  where
    go : (t : Bool) → ltb c d ≡ t → ltb a b ≡ t
    go true e = lt-ltb a b (back (ltb-true c d e))
    go false e = go' (ltb a b) refl
      where
        go' : (u : Bool) → ltb a b ≡ u → u ≡ false
        go' true h = absurd (omega (arith, to (ltb-true a b h), ltb-false c d e))
        go' false h = refl

-- Two numbers put together reach 2 ^ k where one of them does.
pub or-reaches : (k t a b : ℕ) → suc t ≡ 2 ^ k → ltb t (bit_or a b) ≡ (ltb t a || ltb t b)
or-reaches k t a b e = go (ltb t a) (ltb t b) refl refl
  where
    left : a ≤ bit_or a b
    left = omega (arith, or_add_and a b, and_le_r a b)

    right : b ≤ bit_or a b
    right = omega (arith, or_add_and a b, and_le_l a b)

    go : (x y : Bool) → ltb t a ≡ x → ltb t b ≡ y → ltb t (bit_or a b) ≡ (x || y)
    go true y h j = lt-ltb t (bit_or a b) (omega (arith, ltb-true t a h, left))
    go false true h j = lt-ltb t (bit_or a b) (omega (arith, ltb-true t b j, right))
    go false false h j =
        le-ltb t (bit_or a b) (omega (arith, e, or_lt k a b (omega (arith, e, ltb-false t a h)) (omega (arith, e, ltb-false t b j))))

or_swap : (p q r s : Bool) → ((p || q) || (r || s)) ≡ ((p || r) || (q || s))
or_swap true q r s = refl
or_swap false true true s = refl
or_swap false true false s = refl
or_swap false false r s = refl

bad-or : (a b : ℕ) → bad_word (bit_or a b) ≡ (bad_word a || bad_word b)
unfolding bad_word
bad-or a b =
    let low = ap (ltb 0x1FF) (or_mod a b 16) ∙ or-reaches 9 0x1FF (a % 0x10000) (b % 0x10000) refl in
    let high = or-reaches 25 0x1FFFFFF a b refl in
    (λ i. low i || high i) ∙ or_swap (ltb 0x1FF (a % 0x10000)) (ltb 0x1FF (b % 0x10000)) (ltb 0x1FFFFFF a) (ltb 0x1FFFFFF b)

bad-word : (c0 m0 c1 m1 : ℕ) → c0 ≤ 255 → m0 ≤ 255 → c1 ≤ 255 → m1 ≤ 255
    → bad_word (c0 + 0x100 * m0 + 0x10000 * c1 + 0x1000000 * m1) ≡ (ltb 1 m0 || ltb 1 m1)
unfolding bad_word
bad-word c0 m0 c1 m1 h0 h1 h2 h3 =
    let w = c0 + 0x100 * m0 + 0x10000 * c1 + 0x1000000 * m1 in
    let low : ltb 0x1FF (w % 0x10000) ≡ ltb 1 m0 = same-ltb 0x1FF (w % 0x10000) 1 m0 (λ h. omega arith) (λ h. omega arith) in
    let high : ltb 0x1FFFFFF w ≡ ltb 1 m1 = same-ltb 0x1FFFFFF w 1 m1 (λ h. omega arith) (λ h. omega arith) in
    λ i. low i || high i

-- A word more is two cells more.
pub word_more : (s : List ℕ) (k seen : ℕ) → ((j : ℕ) → get_or s j 0 ≤ 255) → 4 * k + 3 < length s → bad_word seen ≡ any bad_mark (take (2 * k) (cells_in s))
    → bad_word (bit_or seen (get_or s (4 * k) 0 + 0x100 * get_or s (4 * k + 1) 0 + 0x10000 * get_or s (4 * k + 2) 0 + 0x1000000 * get_or s (4 * k + 3) 0))
    ≡ any bad_mark (take (2 * (k + 1)) (cells_in s))
word_more s k seen bytes h e =
    let m0 = get_or s (4 * k + 1) 0 in
    let m1 = get_or s (4 * k + 3) 0 in
    let size = length-cells s in
    let p0 : 2 * (2 * k) + 1 ≡ 4 * k + 1 = omega arith in
    let p1 : 2 * (2 * k + 1) + 1 ≡ 4 * k + 3 = omega arith in
    let here : m0 ≡ (get_or (cells_in s) (2 * k) (unruled 0)).mark =
    sym (ap (λ (c : Cell). c.mark) (cell_at (2 * k) s (omega arith)) ∙ ap (λ (j : ℕ). get_or s j 0) p0) in
    let next : m1 ≡ (get_or (cells_in s) (2 * k + 1) (unruled 0)).mark =
    sym (ap (λ (c : Cell). c.mark) (cell_at (2 * k + 1) s (omega arith)) ∙ ap (λ (j : ℕ). get_or s j 0) p1) in
    let last : 2 * k + 1 + 1 ≡ 2 * (k + 1) = omega arith in
    let seen-so-far = any bad_mark (take (2 * k) (cells_in s)) in
    bad-or seen _ ∙ (λ i. e i || bad-word (get_or s (4 * k) 0) m0 (get_or s (4 * k + 2) 0) m1 (bytes _) (bytes _) (bytes _) (bytes _) i)
    ∙ sym (or_assoc seen-so-far (ltb 1 m0) (ltb 1 m1))
    ∙ (λ i. (seen-so-far || ltb 1 (here i)) || ltb 1 (next i))
    ∙ ap (λ (b : Bool). b || bad_mark (get_or (cells_in s) (2 * k + 1) (unruled 0))) (any-more bad_mark (unruled 0) (2 * k) (cells_in s) (omega (arith, size)))
    ∙ any-more bad_mark (unruled 0) (2 * k + 1) (cells_in s) (omega (arith, size))
    ∙ ap (λ (n : ℕ). any bad_mark (take n (cells_in s))) last
