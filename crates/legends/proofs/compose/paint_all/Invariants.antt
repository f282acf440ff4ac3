-- Each turn paints one segment, and leaves those behind it.
use mathlib.Core.List.{map}
use lib.ListN.{length}
use Rattle.line.specs.Cells.{cells_in}
use Rattle.legends.specs.Legends.{segment_of, stored_segments, copy_from}
use Rattle.legends.proofs.ComposeLaws.{Left}
use Rattle.legends.proofs.compose.paint_all.Given as goal

abbrev pub invariant-loop-rest : goal.invariant-loop-rest
invariant-loop-rest l =
    Left l.rest l.number (cells_in l.out) (copy_from (map segment_of (stored_segments l.legends)) l.number 0 (cells_in l.fn.out))

abbrev pub decreases-loop-rest : goal.decreases-loop-rest
decreases-loop-rest l = length l.rest
