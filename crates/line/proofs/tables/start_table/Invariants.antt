-- Turn b sets entry b, so the first b are the starting table's.
use Rattle.std.proofs.Common.{◌≡◌}
use Rattle.seq.proofs.Loops.{filled}
use Rattle.line.specs.Line.{start_table}
use Rattle.line.proofs.tables.start_table.Given as goal

abbrev pub invariant-loop-b : goal.invariant-loop-b
invariant-loop-b l = l.table ≡ filled l.b start_table l.initial.table
