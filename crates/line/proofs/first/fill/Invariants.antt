-- Turn i writes the two bytes of cell i, so the first i cells have the code, and no mark.
use Rattle.std.proofs.Common.{◌≡◌, ◌*◌, replicate}
use Rattle.seq.proofs.Loops.{filled}
use Rattle.numbers.specs.Sizes.{line_width}
use Rattle.line.specs.Straight.{plain}
use Rattle.line.proofs.first.fill.Given as goal

abbrev pub invariant-loop-i : goal.invariant-loop-i
invariant-loop-i l = l.cells ≡ filled (2 * l.i) (plain (replicate line_width l.code)) l.initial.cells
