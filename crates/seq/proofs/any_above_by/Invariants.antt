-- What the blocks so far have shown: nothing past the limit in front of what is left to cut.
use Rattle.std.proofs.Common.{◌≡◌, ◌-◌, take}
use Rattle.seq.specs.Scan.{past}
use Rattle.seq.proofs.Loops.{Behind}
use Rattle.seq.proofs.any_above_by.Given as goal

abbrev pub invariant-loop-part : goal.invariant-loop-part
invariant-loop-part l = record {
  size : l.part-iterator.size ≡ l.block;
  behind : Behind (past l.base l.limit) (take (l.n - 1) l.s) l.part-iterator.rest.now;
}
