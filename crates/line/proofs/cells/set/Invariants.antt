-- Turn i writes the two bytes of cell i, so the first i cells are set.
use Rattle.std.proofs.Common.{◌≡◌, ◌*◌, map}
use Rattle.seq.proofs.Loops.{filled}
use Rattle.line.specs.Cells.{unruled, stored}
use Rattle.line.proofs.cells.set.Given as goal

abbrev pub invariant-loop-i : goal.invariant-loop-i
invariant-loop-i l = l.cells ≡ filled (2 * l.i) (stored (map unruled l.new)) l.initial.cells
