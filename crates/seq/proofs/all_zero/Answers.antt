-- What is past 0 is what is not 00, by blocks of either size.
use Rattle.std.proofs.Common.{not, ap, ◌∙◌, arith}
use Rattle.seq.proofs.Loops.{none-past}
use Rattle.seq.proofs.all_zero.Goals as goal

pub returns-then-s-lt-LARGE_BLOCK : goal.returns-then-s-lt-LARGE_BLOCK
returns-then-s-lt-LARGE_BLOCK c = ap not c.any_above_by.ensures ∙ none-past c.args.s.now (λ i. omega (arith, c.type_inv.s i))

pub returns-else-s-lt-LARGE_BLOCK : goal.returns-else-s-lt-LARGE_BLOCK
returns-else-s-lt-LARGE_BLOCK c = ap not c.any_above_by-else-s-lt-LARGE_BLOCK.ensures ∙ none-past c.args.s.now (λ i. omega (arith, c.type_inv.s i))
