-- A loop that merges codes cell by cell: its start, a turn, its end. A blank that merges with every cell; and a merge in two parts.
use Prim.Native.Nat.{ℕ, zero, suc, ◌+◌, ◌*◌, ◌≤◌, ◌<◌}
use mathlib.Core.Path.{◌≡◌, refl, sym, ap, ◌∙◌}
use mathlib.Core.Bool.{Bool, true, false, ◌||◌, or_assoc}
use mathlib.Core.List.{List, [], ◌∷◌, ◌++◌, zip_with, append-nil}
use native.Mathlib.Omega.{arith}
use lib.ListN.{length, get_or, take, drop, replicate, length-set, length-drop, drop_of_length-le}
use lib.Seq.{take_at, drop_at, take_all}
use Rattle.seq.specs.Words.{any}
use Rattle.seq.proofs.Laws.{length-zip_with}
use Rattle.seq.proofs.Loops.{filled, filled_none, filled-all, reads_old, get_or-zip_with, any-more, any-all}
use Rattle.line.specs.declared.Cell.{Cell}
use Rattle.line.specs.Cells.{unruled, stored, cells_in}
use Rattle.line.specs.Line.{is_blank, merge_cell, collides, merge_line, any_collides}
use Rattle.line.specs.Straight.{cell_from, put_cell}
use Rattle.line.proofs.CellLaws.{blank-new}
use Rattle.line.proofs.StoredLaws.{twice-suc, length-stored, length-cells, cell_at, cell-more}

-- After i turns the first i cells of `o` are merged with `new`, and their collisions known.
pub record Merged (o new : List ℕ) (i : ℕ) (cells : List ℕ) (clash : Bool) : Type 0 where
  pub long : length cells ≡ length o
  pub bytes : cells ≡ filled (2 * i) (stored (zip_with merge_cell (cells_in o) new)) o
  pub hits : clash ≡ any (λ t. t) (take i (zip_with collides (cells_in o) new))

pub merged-none : (o new : List ℕ) → Merged o new 0 o false
merged-none o new = record { long = refl; bytes = sym (filled_none _ _); hits = refl }

module _ (o new : List ℕ) (room : length o ≡ 2 * length new) where
  even : length (cells_in o) ≡ length new
  even = length-cells o ∙ omega (arith, room)

  -- a turn reads the old cell, and puts what the rules give
  pub merged-more : {i v : ℕ} {cells out : List ℕ} {clash hit : Bool} → i < length new → Merged o new i cells clash → v ≡ get_or new i 0
      → out ≡ put_cell (2 * i) (merge_cell (cell_from (2 * i) cells) v) cells → hit ≡ collides (cell_from (2 * i) cells) v
      → Merged o new (i + 1) out (clash || hit)
  merged-more {i} {v} {cells} {out} {clash} {hit} h m e put clashes =
      let old = cells_in o in
      let goal = zip_with merge_cell old new in
      let here : i < length old = rw even h in
      let code = reads_old (2 * i) (2 * i) (stored goal) o cells (omega arith) m.bytes in
      let mark = reads_old (2 * i) (2 * i + 1) (stored goal) o cells (omega arith) m.bytes in
      let read : cell_from (2 * i) cells ≡ get_or old i (unruled 0) =
      (λ j. record { code = code j; mark = mark j }) ∙ sym (cell_at i o (omega (arith, room, h))) in
      let cell = (λ j. merge_cell (read j) (e j)) ∙ sym (get_or-zip_with merge_cell (unruled 0) 0 (unruled 0) i old new here h) in
      let hits = clashes ∙ (λ j. collides (read j) (e j)) ∙ sym (get_or-zip_with collides (unruled 0) 0 false i old new here h) in
      record {
        long = ap length put ∙ simp length-set m.long;
        bytes =
            put
            ∙ cell-more i _ _ goal o cells m.bytes (rw (length-zip_with merge_cell old new even) here) (ap (λ (x : Cell). x.code) cell)
            (ap (λ (x : Cell). x.mark) cell);
        hits =
            (λ j. m.hits j || hits j)
            ∙ any-more (λ t. t) false i (zip_with collides old new) (rw (length-zip_with collides old new even) here);
      }

  pub merged-all : {i : ℕ} {cells : List ℕ} {clash : Bool} → length new ≤ i → Merged o new i cells clash
      → (cells ≡ stored (merge_line (cells_in o) new)) × (clash ≡ any_collides (cells_in o) new)
  unfolding merge_line any_collides
  merged-all {i} h m =
      let old = cells_in o in
      let long = length-zip_with merge_cell old new even ∙ even in (
        m.bytes ∙ filled-all _ _ _ (length-stored (zip_with merge_cell old new) ∙ rw long (sym room)) (omega (arith, room, h)),
        m.hits ∙ any-all (λ t. t) i (zip_with collides old new) (rw (length-zip_with collides old new even, even) h),
      )

-- a blank leaves every cell
pub merge-blanks : (k v : ℕ) (bs : List ℕ) → is_blank v ≡ true → length bs ≡ 2 * k
    → (bs ≡ stored (merge_line (cells_in bs) (replicate k v))) × (false ≡ any_collides (cells_in bs) (replicate k v))
unfolding merge_line any_collides stored cells_in zip_with
merge-blanks zero v [] b e = (refl, refl)
merge-blanks zero v (c ∷ bs) b e = absurd (omega (arith, e))
merge-blanks (suc k) v [] b e = absurd (omega (arith, e))
merge-blanks (suc k) v (c ∷ []) b e = absurd (omega (arith, e))
merge-blanks (suc k) v (c ∷ m ∷ bs) b e =
    let rest = merge-blanks k v bs b (omega (arith, e)) in
    let g = blank-new (record { code = c; mark = m }) v b in
    (λ j. (sym g.0 j).code ∷ (sym g.0 j).mark ∷ rest.0 j, λ j. sym g.1 j || rest.1 j)

-- The front of a line with some codes, and the rest with others, n cells being the front.
front_rest : (e xs ys : List ℕ)
    → stored (merge_line (cells_in (take (2 * length xs) e)) xs) ++ stored (merge_line (cells_in (drop (2 * length xs) e)) ys)
    ≡ stored (merge_line (cells_in e) (xs ++ ys))
unfolding merge_line stored cells_in zip_with
front_rest e [] ys = refl
front_rest [] (x ∷ xs) ys = rw twice-suc refl
front_rest (c ∷ []) (x ∷ xs) ys = rw twice-suc refl
front_rest (c ∷ m ∷ e) (x ∷ xs) ys =
    let cell = merge_cell (record { code = c; mark = m }) x in
    rw twice-suc (ap (λ (l : List ℕ). cell.code ∷ cell.mark ∷ l) (front_rest e xs ys))

hits-front-rest : (e xs ys : List ℕ)
    → (any_collides (cells_in (take (2 * length xs) e)) xs || any_collides (cells_in (drop (2 * length xs) e)) ys) ≡ any_collides (cells_in e) (xs ++ ys)
unfolding any_collides cells_in zip_with
hits-front-rest e [] ys = refl
hits-front-rest [] (x ∷ xs) ys = rw twice-suc refl
hits-front-rest (c ∷ []) (x ∷ xs) ys = rw twice-suc refl
hits-front-rest (c ∷ m ∷ e) (x ∷ xs) ys =
    let hit = collides (record { code = c; mark = m }) x in
    rw twice-suc (or_assoc hit _ _ ∙ ap (λ (b : Bool). hit || b) (hits-front-rest e xs ys))

module _ (n : ℕ) (e xs ys : List ℕ) (h : length xs ≡ n) where
  pub merge-parts : stored (merge_line (cells_in (take (2 * n) e)) xs) ++ stored (merge_line (cells_in (drop (2 * n) e)) ys)
      ≡ stored (merge_line (cells_in e) (xs ++ ys))
  merge-parts = rw (sym h) (front_rest e xs ys)

  pub clash-parts : (any_collides (cells_in (take (2 * n) e)) xs || any_collides (cells_in (drop (2 * n) e)) ys) ≡ any_collides (cells_in e) (xs ++ ys)
  clash-parts = rw (sym h) (hits-front-rest e xs ys)

-- two parts of a store put one after the other, the second up to its end
module _ (k m : ℕ) (e x y : List ℕ) (long : length x ≡ k) (whole : length e ≡ k + m) where
  rest : drop k (x ++ drop k e) ≡ drop k e
  rest = drop_at x (drop k e) k long

  size : length (drop k e) ≤ m
  size = omega (arith, whole, length-drop k e)

  pub parts-put : take k (x ++ drop k e) ++ (y ++ drop m (drop k (x ++ drop k e))) ≡ x ++ y
  parts-put =
      (λ j. take_at x (drop k e) k long j ++ (y ++ (ap (drop m) rest ∙ drop_of_length-le (drop k e) size) j)) ∙ ap (λ (l : List ℕ). x ++ l) (append-nil y)

  pub part_left : take m (drop k (x ++ drop k e)) ≡ drop k e
  part_left = ap (take m) rest ∙ take_all m (drop k e) size
