-- `product` multiplies what 16 lets pass, so that nothing overflows.
use Rattle.std.proofs.Common.{arith}
use Rattle.paper.proofs.PaperLaws.{factors_most}
use Rattle.paper.proofs.product.Goals as goal

pub overflow_mul-result-2 : goal.overflow_mul-result-2
overflow_mul-result-2 c = grind (arith, factors_most)
