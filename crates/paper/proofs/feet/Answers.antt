-- `feet` divides once: the product is a double, and the quotient is the double nearest to the fraction.
use Rattle.paper.proofs.Rounding.{divided}
use Rattle.paper.proofs.feet.Goals as goal

pub returns : goal.returns
returns c = divided _ c.requires
