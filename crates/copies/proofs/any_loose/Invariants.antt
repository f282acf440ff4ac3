-- The answer is what was found so far, or what the bytes from place k on show.
use Rattle.std.proofs.Common.{◌≡◌, ◌≤◌, ◌||◌, drop}
use Rattle.copies.specs.Copies.{pair_size}
use Rattle.copies.proofs.JudgeLaws.{loose}
use Rattle.copies.proofs.any_loose.Given as goal

abbrev pub invariant-loop-k : goal.invariant-loop-k
invariant-loop-k l = l.count ≤ pair_size → loose l.count 0 l.pairs ≡ (l.found || loose l.count l.k (drop l.k l.pairs))
