-- A sound segment changes neither what the tests find nor the legends' test, so each turn may leave it behind.
use mathlib.Core.Path.{◌≡◌}
use Prim.Native.Nat.{◌≤◌}
use lib.ListN.{length}
use Rattle.legends.specs.Legends.{legends_ok}
use Rattle.legends.proofs.SegmentLaws.{judged}
use Rattle.legends.proofs.after_sound.Given as goal

abbrev pub invariant-loop-rest : goal.invariant-loop-rest
invariant-loop-rest l = record {
  fewer : length l.rest ≤ length l.s;
  checked : judged l.s ≡ judged l.rest;
  stored : legends_ok l.s ≡ legends_ok l.rest;
}

abbrev pub decreases-loop-rest : goal.decreases-loop-rest
decreases-loop-rest l = length l.rest
