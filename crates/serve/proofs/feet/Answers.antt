-- `feet` tells what is answered, and leaves the feet in the lent double.
use Rattle.state.specs.Host.{feet_told}
use Rattle.serve.proofs.feet.Goals as goal

pub returns : goal.returns
unfolding feet_told
returns c = rw (c.number_only.ensures, c.used-paper.ensures)
