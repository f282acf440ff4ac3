-- Turn i writes the two bytes of cell i, so the first i cells have the code, and no mark.
use mathlib.Core.Path.{sym, ap, ◌∙◌}
use mathlib.Core.List.{map}
use native.Mathlib.Omega.{arith}
use lib.ListN.{replicate, length-map, length-replicate, get_or-replicate, get_or-map}
use borrow.Author.Rules.{rules}
use Rattle.seq.proofs.Loops.{filled_none, filled-all}
use Rattle.numbers.specs.Sizes.{line_width}
use Rattle.line.specs.declared.Cell.{Cell}
use Rattle.line.specs.Cells.{unruled}
use Rattle.line.proofs.StoredLaws.{length-stored, cell-more}
use Rattle.line.proofs.first.fill.Goals as goal

pub loop-i-init : goal.loop-i-init
loop-i-init c = sym (filled_none _ _)

pub loop-i-preserved : goal.loop-i-preserved
loop-i-preserved c = let l = c.loop-i in
    let a = c.args in
    let codes = replicate line_width a.code in
    let cell = get_or-map unruled codes l.i 0 ∙ ap unruled (get_or-replicate line_width l.i a.code 0 (search rules)) in
    cell-more l.i a.code 0 (map unruled codes) a.cells.now l.cells l.invariant (rw (length-map, length-replicate) (search rules))
    (sym (ap (λ (c : Cell). c.code) cell)) (sym (ap (λ (c : Cell). c.mark) cell))

pub returns : goal.returns
returns c = let l = c.loop-i in
    let a = c.args in
    let codes = replicate line_width a.code in
    let long = length-replicate line_width a.code in
    l.invariant ∙ filled-all _ _ _ (omega (arith, length-stored (map unruled codes), length-map codes unruled, long)) (omega arith)
