-- After so many turns those bytes are looked at, each by the difference that wraps.
use Rattle.std.proofs.Common.{◌≡◌, take}
use Rattle.seq.specs.Scan.{past}
use Rattle.seq.specs.Words.{any}
use Rattle.seq.proofs.any_above.Given as goal

abbrev pub invariant-loop-b : goal.invariant-loop-b
invariant-loop-b l = l.found ≡ any (past l.base l.limit) (take l.b-index l.s)
