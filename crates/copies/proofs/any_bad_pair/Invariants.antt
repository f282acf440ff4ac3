-- The pairs before this one are looked at.
use Rattle.std.proofs.Common.{◌≡◌, map, take}
use Rattle.seq.specs.Words.{any}
use Rattle.copies.specs.Copies.{pair_of, bad_pair}
use Rattle.copies.proofs.any_bad_pair.Given as goal

abbrev pub invariant-loop-copies : goal.invariant-loop-copies
invariant-loop-copies l = l.bad ≡ any bad_pair (map pair_of (take l.copies-index l.copies-items))
