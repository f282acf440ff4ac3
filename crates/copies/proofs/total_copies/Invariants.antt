-- The copies are the sum so far and those of the pairs from here on; 255 a pair bound the sum.
use Rattle.std.proofs.Common.{◌≡◌, ◌+◌, ◌*◌, ◌≤◌, map, drop}
use Rattle.seq.specs.Words.{total}
use Rattle.copies.specs.Copies.{pair_of, copies_of}
use Rattle.copies.proofs.total_copies.Given as goal

abbrev pub invariant-loop-copies : goal.invariant-loop-copies
invariant-loop-copies l =
    record {
      most : l.total ≤ 255 * l.copies-index;
      rest : copies_of l.bytes ≡ l.total + total (map (λ p. p.0) (map pair_of (drop l.copies-index l.copies-items)));
    }
