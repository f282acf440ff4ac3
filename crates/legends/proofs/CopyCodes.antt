-- The codes of a composed copy are what document 01 makes of the page's codes: the mark is all that T-03 adds.
use Prim.Native.Nat.{ℕ, suc, ◌*◌}
use mathlib.Core.Path.{◌≡◌, refl, ap, ◌∙◌}
use mathlib.Core.Bool.{Bool, true, false, cond}
use mathlib.Core.List.{List, [], ◌∷◌, map}
use native.Mathlib.Omega.{arith}
use lib.ListN.{take}
use Rattle.seq.proofs.Laws.{map-take}
use Rattle.numbers.specs.Sizes.{cell_bytes, line_width, line_bytes}
use Rattle.line.specs.declared.Cell.{Cell}
use Rattle.line.specs.Cells.{unruled, cells_in}
use Rattle.line.specs.Rules.{codes_in}
use Rattle.line.proofs.StoredLaws.{cells-take, cells-stored}
use Rattle.line.proofs.RuleLaws.{code}
use Rattle.legends.specs.Legends.{Segment, segment_of, stored_segments, covers, shown, line_of, position_of, copy_from, composed}
use Rattle.legends.specs.CopyCodes.{shown_code, codes_from}

shown-code : (gs : List Segment) (number line position : ℕ) (c : Cell) → (shown gs number line position c).code ≡ shown_code gs number line position c.code
unfolding shown shown_code
shown-code [] number line position c = refl
shown-code (g ∷ gs) number line position c =
    shown-code gs number line position _ ∙ ap (shown_code gs number line position) (under (covers g number line position) _ c)
  where
    under : (t : Bool) (n : ℕ) (c : Cell) → (cond t (unruled n) c).code ≡ cond t n c.code
    under true n c = refl
    under false n c = refl

codes-of : (gs : List Segment) (number i : ℕ) (cs : List Cell) → map code (copy_from gs number i cs) ≡ codes_from gs number i (map code cs)
unfolding copy_from codes_from
codes-of gs number i [] = refl
codes-of gs number i (c ∷ cs) = λ j. shown-code gs number (line_of i) (position_of i) c j ∷ codes-of gs number (suc i) cs j

pub copy-codes : (page legends : List ℕ) (P number : ℕ)
    → codes_in (composed page legends P number) ≡ codes_from (map segment_of (stored_segments legends)) number 0 (take (line_width * P) (codes_in page))
unfolding composed
copy-codes page legends P number =
    let gs = map segment_of (stored_segments legends) in
    let cells = cells_in (take (line_bytes * P) page) in
    let size : line_bytes * P ≡ cell_bytes * (line_width * P) = omega arith in
    let front = ap (λ (n : ℕ). map code (cells_in (take n page))) size ∙ ap (map code) (cells-take (line_width * P) page)
    ∙ map-take code (line_width * P) (cells_in page) in
    ap (map code) (cells-stored (copy_from gs number 0 cells)) ∙ codes-of gs number 0 cells ∙ ap (codes_from gs number 0) front
