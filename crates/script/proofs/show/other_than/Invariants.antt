-- No more bytes are counted than were read.
use Rattle.std.proofs.Common.{◌≤◌}
use Rattle.script.proofs.show.other_than.Given as goal

abbrev pub invariant-loop-b : goal.invariant-loop-b
invariant-loop-b l = l.n ≤ l.b-index
