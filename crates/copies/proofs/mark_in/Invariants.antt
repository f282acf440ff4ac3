-- The mark of copy k is that of copy `left` among the pairs from here on.
use Rattle.std.proofs.Common.{◌≡◌, map, drop}
use Rattle.copies.specs.Copies.{pair_of, pairs_of, mark_in}
use Rattle.copies.proofs.mark_in.Given as goal

abbrev pub invariant-loop-copies : goal.invariant-loop-copies
invariant-loop-copies l = mark_in l.k (pairs_of l.bytes) ≡ mark_in l.left (map pair_of (drop l.copies-index l.copies-items))
