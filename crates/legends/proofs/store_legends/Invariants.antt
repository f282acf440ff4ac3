-- Each turn writes the cells of the segment at `at`, and what is left gives the rest of the store and of the answer.
use Prim.Native.Nat.{◌-◌}
use lib.ListN.{length}
use Rattle.legends.proofs.StoredLaws.{Storing}
use Rattle.legends.proofs.store_legends.Given as goal

abbrev pub invariant-loop-at : goal.invariant-loop-at
invariant-loop-at l = Storing l.pitches l.table l.sent l.legends l.found l.at

abbrev pub decreases-loop-at : goal.decreases-loop-at
decreases-loop-at l = length l.sent - l.at
