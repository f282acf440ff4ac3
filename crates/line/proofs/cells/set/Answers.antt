-- Turn i writes the two bytes of cell i, so the first i cells are set.
use mathlib.Core.Path.{sym, ap, ◌∙◌}
use mathlib.Core.List.{map}
use Prim.Native.Nat.{◌<◌}
use native.Mathlib.Omega.{arith}
use lib.ListN.{length, length-map}
use borrow.Author.Rules.{rules}
use Rattle.seq.proofs.Loops.{filled_none, filled-all, get_or-map}
use Rattle.line.specs.declared.Cell.{Cell}
use Rattle.line.specs.Cells.{unruled}
use Rattle.line.proofs.StoredLaws.{length-stored, cell-more}
use Rattle.line.proofs.cells.set.Goals as goal

pub loop-i-init : goal.loop-i-init
loop-i-init c = sym (filled_none _ _)

pub loop-i-preserved : goal.loop-i-preserved
loop-i-preserved c = let l = c.loop-i in
    let a = c.args in
    let n = a.new.now in
    let here : l.i < length n = search rules in
    let cell = get_or-map unruled 0 (unruled 0) l.i n here in
    cell-more l.i _ 0 (map unruled n) a.cells.now l.cells l.invariant (rw (length-map n unruled) here)
    (sym (ap (λ (c : Cell). c.code) cell)) (sym (ap (λ (c : Cell). c.mark) cell))

pub returns : goal.returns
returns c = let l = c.loop-i in
    let a = c.args in
    let n = a.new.now in
    l.invariant ∙ filled-all _ _ _ (length-stored (map unruled n) ∙ rw (length-map n unruled) (sym c.requires)) (omega arith)
