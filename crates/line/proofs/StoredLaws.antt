-- Cells as bytes and bytes as cells: sizes, elements, parts, and the way there and back.
use Prim.Native.Nat.{ℕ, zero, suc, ◌+◌, ◌*◌, ◌/◌, ◌≤◌, ◌<◌}
use mathlib.Core.Path.{◌≡◌, refl, sym, ap, ◌∙◌}
use mathlib.Core.List.{List, [], ◌∷◌, ◌++◌}
use native.Mathlib.Omega.{arith}
use lib.ListN.{length, get_or, take, drop, set}
use lib.Seq.{length-take-le, get_or-set_other}
use Rattle.seq.proofs.Loops.{filled, filled_more}
use Rattle.seq.proofs.Put.{put}
use Rattle.line.specs.declared.Cell.{Cell}
use Rattle.line.specs.Cells.{unruled, stored, cells_in}
use Rattle.line.specs.Straight.{cell_from, put_cell}

-- two bytes a cell
pub twice-suc : (k : ℕ) → 2 * suc k ≡ suc (suc (2 * k))
twice-suc k = omega arith

twice-next : (k : ℕ) → 2 * suc k + 1 ≡ suc (suc (2 * k + 1))
twice-next k = omega arith

-- a byte put in its own place changes nothing
pub set_same : (i : ℕ) (bs : List ℕ) → set bs i (get_or bs i 0) ≡ bs
set_same i [] = refl
set_same zero (b ∷ bs) = refl
set_same (suc i) (b ∷ bs) = ap (λ (l : List ℕ). b ∷ l) (set_same i bs)

-- A cell put in its own place; and so with another code, or another mark, alone.
module _ (at : ℕ) (bs : List ℕ) where
  pub put-mark : (m : ℕ) → put_cell at (record { code = get_or bs at 0; mark = m }) bs ≡ set bs (at + 1) m
  put-mark m = ap (λ (l : List ℕ). set l (at + 1) m) (set_same at bs)

  pub put_same : put_cell at (cell_from at bs) bs ≡ bs
  put_same = put-mark (get_or bs (at + 1) 0) ∙ set_same (at + 1) bs

  pub put-code : (v : ℕ) → put_cell at (record { code = v; mark = get_or bs (at + 1) 0 }) bs ≡ set bs at v
  put-code v =
      ap (set (set bs at v) (at + 1)) (sym (get_or-set_other bs at (at + 1) v 0 (λ e. omega (arith, e)))) ∙ set_same (at + 1) (set bs at v)

-- Cells as bytes.
pub length-stored : (cs : List Cell) → length (stored cs) ≡ 2 * length cs
unfolding stored
length-stored [] = refl
length-stored (c ∷ cs) = omega (arith, length-stored cs)

pub stored-code : (i : ℕ) (cs : List Cell) → get_or (stored cs) (2 * i) 0 ≡ (get_or cs i (unruled 0)).code
unfolding stored
stored-code i [] = refl
stored-code zero (c ∷ cs) = refl
stored-code (suc i) (c ∷ cs) = rw twice-suc (stored-code i cs)

pub stored-mark : (i : ℕ) (cs : List Cell) → get_or (stored cs) (2 * i + 1) 0 ≡ (get_or cs i (unruled 0)).mark
unfolding stored
stored-mark i [] = refl
stored-mark zero (c ∷ cs) = refl
stored-mark (suc i) (c ∷ cs) = rw twice-next (stored-mark i cs)

-- Bytes as cells.
pub length-cells : (bs : List ℕ) → length (cells_in bs) ≡ length bs / 2
unfolding cells_in
length-cells [] = refl
length-cells (c ∷ []) = refl
length-cells (c ∷ m ∷ bs) = omega (arith, length-cells bs)

pub cell_at : (i : ℕ) (bs : List ℕ) → 2 * i + 1 < length bs
    → get_or (cells_in bs) i (unruled 0) ≡ record { code = get_or bs (2 * i) 0; mark = get_or bs (2 * i + 1) 0 }
unfolding cells_in
cell_at i [] h = absurd (omega (arith, h))
cell_at i (c ∷ []) h = absurd (omega (arith, h))
cell_at zero (c ∷ m ∷ bs) h = refl
cell_at (suc i) (c ∷ m ∷ bs) h = rw (twice-next, twice-suc) (cell_at i bs (omega (arith, h)))

pub cells-take : (k : ℕ) (bs : List ℕ) → cells_in (take (2 * k) bs) ≡ take k (cells_in bs)
unfolding cells_in
cells-take zero bs = refl
cells-take (suc k) [] = rw twice-suc refl
cells-take (suc k) (c ∷ []) = rw twice-suc refl
cells-take (suc k) (c ∷ m ∷ bs) = rw twice-suc (ap (λ (l : List Cell). record { code = c; mark = m } ∷ l) (cells-take k bs))

pub cells-drop : (k : ℕ) (bs : List ℕ) → cells_in (drop (2 * k) bs) ≡ drop k (cells_in bs)
unfolding cells_in
cells-drop zero bs = refl
cells-drop (suc k) [] = rw twice-suc refl
cells-drop (suc k) (c ∷ []) = rw twice-suc refl
cells-drop (suc k) (c ∷ m ∷ bs) = rw twice-suc (cells-drop k bs)

-- n cells and what stands behind them
pub cells-append : (n : ℕ) (xs ys : List ℕ) → length xs ≡ 2 * n → cells_in (xs ++ ys) ≡ cells_in xs ++ cells_in ys
unfolding cells_in
cells-append n [] ys e = refl
cells-append n (c ∷ []) ys e = absurd (omega (arith, e))
cells-append zero (c ∷ m ∷ xs) ys e = absurd (omega (arith, e))
cells-append (suc n) (c ∷ m ∷ xs) ys e = ap (λ (l : List Cell). record { code = c; mark = m } ∷ l) (cells-append n xs ys (omega (arith, e)))

-- There and back.
pub cells-stored : (cs : List Cell) → cells_in (stored cs) ≡ cs
unfolding stored cells_in
cells-stored [] = refl
cells-stored (c ∷ cs) = ap (λ (l : List Cell). c ∷ l) (cells-stored cs)

pub stored-cells : (n : ℕ) (bs : List ℕ) → length bs ≡ 2 * n → stored (cells_in bs) ≡ bs
unfolding stored cells_in
stored-cells n [] e = refl
stored-cells n (c ∷ []) e = absurd (omega (arith, e))
stored-cells zero (c ∷ m ∷ bs) e = absurd (omega (arith, e))
stored-cells (suc n) (c ∷ m ∷ bs) e = ap (λ (l : List ℕ). c ∷ m ∷ l) (stored-cells n bs (omega (arith, e)))

-- Cells put over those from cell a on.
pub cells-put : (a : ℕ) (cs : List Cell) (out : List ℕ) → 2 * a ≤ length out
    → cells_in (take (2 * a) out ++ (stored cs ++ drop (2 * length cs) (drop (2 * a) out))) ≡ put a cs (cells_in out)
cells-put a cs out h =
    let rest = cells-drop (length cs) (drop (2 * a) out) ∙ ap (drop (length cs)) (cells-drop a out) in
    let behind = cells-append (length cs) (stored cs) _ (length-stored cs) ∙ (λ i. cells-stored cs i ++ rest i) in
    cells-append a (take (2 * a) out) _ (length-take-le (2 * a) out h) ∙ (λ i. cells-take a out i ++ behind i)

-- A turn that writes both bytes of cell i.
pub cell-more : (i v w : ℕ) (cs : List Cell) (old out : List ℕ) → out ≡ filled (2 * i) (stored cs) old → i < length cs
    → v ≡ (get_or cs i (unruled 0)).code → w ≡ (get_or cs i (unruled 0)).mark
    → set (set out (2 * i) v) (2 * i + 1) w ≡ filled (2 * (i + 1)) (stored cs) old
cell-more i v w cs old out e h p q =
    let room = length-stored cs in
    let first = filled_more (2 * i) v (stored cs) old out e (omega arith) (p ∙ sym (stored-code i cs)) in
    let next : 2 * i + 1 + 1 ≡ 2 * (i + 1) = omega arith in
    filled_more (2 * i + 1) w (stored cs) old (set out (2 * i) v) first (omega arith) (q ∙ sym (stored-mark i cs))
    ∙ ap (λ (n : ℕ). filled n (stored cs) old) next
