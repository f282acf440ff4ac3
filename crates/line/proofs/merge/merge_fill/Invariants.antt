-- A blank changes nothing; any other code is merged with one cell a turn.
use lib.ListN.{replicate}
use Rattle.line.proofs.MergeLaws.{Merged}
use Rattle.line.proofs.merge.merge_fill.Given as goal

abbrev pub invariant-loop-i : goal.invariant-loop-i
invariant-loop-i l = Merged l.initial.cells (replicate l.count l.code) l.i l.cells l.clash
