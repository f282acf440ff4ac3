-- No more places differ than were compared.
use Rattle.std.proofs.Common.{◌≤◌}
use Rattle.script.proofs.show.unlike.Given as goal

abbrev pub invariant-loop-i : goal.invariant-loop-i
invariant-loop-i l = l.n ≤ l.i
