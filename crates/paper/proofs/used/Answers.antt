-- `used` divides the product of what 16 lets pass, which a double has exactly.
use Rattle.std.proofs.Common.{arith}
use Rattle.paper.proofs.PaperLaws.{product-most}
use Rattle.paper.proofs.used.Goals as goal

pub feet-requires : goal.feet-requires
feet-requires c = grind (arith, product-most)
