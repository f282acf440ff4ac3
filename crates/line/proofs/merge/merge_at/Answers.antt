-- Each return is what the rules give where the tests before it held or not; what is not set is as it was.
use mathlib.Core.Path.{◌≡◌, refl, sym, ap, ◌∙◌}
use mathlib.Core.Bool.{Bool}
use mathlib.Core.List.{List}
use Prim.Native.Nat.{ℕ}
use Rattle.line.specs.declared.Cell.{Cell}
use Rattle.line.specs.Line.{merge_cell, collides}
use Rattle.line.specs.Straight.{cell_from, put_cell}
use Rattle.line.proofs.CellLaws.{Gives, blank-new, blank-old, two-underscores, underscore-new, underscore-old, characters}
use Rattle.line.proofs.StoredLaws.{put_same, put-code, put-mark}
use Rattle.line.proofs.merge.merge_at.Goals as goal

-- bytes and answer are right, where these bytes are the line with the cell that the rules give
right : (at new : ℕ) (bs : List ℕ) {out : List ℕ} {cell : Cell} {clash r : Bool}
    → Gives (cell_from at bs) new cell clash → put_cell at cell bs ≡ out → r ≡ clash
    → (out ≡ put_cell at (merge_cell (cell_from at bs) new) bs) × (r ≡ collides (cell_from at bs) new)
right at new bs g e a = (sym (ap (λ (x : Cell). put_cell at x bs) g.0 ∙ e), a ∙ sym g.1)

pub returns-then-is_blank : goal.returns-then-is_blank
returns-then-is_blank c = let a = c.args in
    let b = sym c.is_blank.ensures ∙ c.if-is_blank.true in
    let both = right a.at a.new a.cells.now (blank-new _ _ b) (put_same a.at a.cells.now) refl in
    record { cells = both.0; clash = both.1 }

pub returns-then-is_blank-2 : goal.returns-then-is_blank-2
returns-then-is_blank-2 c = let a = c.args in
    let b = sym c.is_blank.ensures ∙ c.if-is_blank.false in
    let both = right a.at a.new a.cells.now (blank-old _ _ b (sym c.is_blank-2.ensures ∙ c.if-is_blank-2.true)) (put-code a.at a.cells.now a.new) refl in
    record { cells = both.0; clash = both.1 }

pub returns-then-is_underscore-2 : goal.returns-then-is_underscore-2
returns-then-is_underscore-2 c = let z0 = sym c.is_blank.ensures ∙ c.if-is_blank.false in let z1 = sym c.is_blank-2.ensures ∙ c.if-is_blank-2.false in
    let a = c.args in
    let g = two-underscores _ _ z0 z1 (sym c.is_underscore.ensures ∙ c.if-is_underscore.true)
    (sym c.is_underscore-then-is_underscore.ensures ∙ c.if-is_underscore-2.true) in
    let both = right a.at a.new a.cells.now g (put_same a.at a.cells.now) refl in
    record { cells = both.0; clash = both.1 }

pub returns-then-is_underscore : goal.returns-then-is_underscore
returns-then-is_underscore c = let z0 = sym c.is_blank.ensures ∙ c.if-is_blank.false in let z1 = sym c.is_blank-2.ensures ∙ c.if-is_blank-2.false in
    let a = c.args in
    let g = underscore-new _ _ z0 z1 (sym c.is_underscore.ensures ∙ c.if-is_underscore.true)
    (sym c.is_underscore-then-is_underscore.ensures ∙ c.if-is_underscore-2.false) in
    let both = right a.at a.new a.cells.now g (put-mark a.at a.cells.now 1) refl in
    record { cells = both.0; clash = both.1 }

pub returns-then-is_underscore-3 : goal.returns-then-is_underscore-3
returns-then-is_underscore-3 c = let z0 = sym c.is_blank.ensures ∙ c.if-is_blank.false in let z1 = sym c.is_blank-2.ensures ∙ c.if-is_blank-2.false in
    let a = c.args in
    let g = underscore-old _ _ z0 z1 (sym c.is_underscore.ensures ∙ c.if-is_underscore.false) (sym c.is_underscore-2.ensures ∙ c.if-is_underscore-3.true) in
    let both = right a.at a.new a.cells.now g refl refl in
    record { cells = both.0; clash = both.1 }

pub returns : goal.returns
returns c = let z0 = sym c.is_blank.ensures ∙ c.if-is_blank.false in let z1 = sym c.is_blank-2.ensures ∙ c.if-is_blank-2.false in
    let a = c.args in
    let g = characters _ _ z0 z1 (sym c.is_underscore.ensures ∙ c.if-is_underscore.false) (sym c.is_underscore-2.ensures ∙ c.if-is_underscore-3.false) in
    let both = right a.at a.new a.cells.now g (put_same a.at a.cells.now) refl in
    record { cells = both.0; clash = both.1 }
