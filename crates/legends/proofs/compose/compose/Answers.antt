-- The copy is made in the first bytes of the output, so those after it stay.
use Rattle.legends.specs.Legends.{composed}
use Rattle.legends.proofs.compose.compose.Goals as goal

pub returns : goal.returns
unfolding composed
returns c = rw (c.compose_in.ensures, c.from.ensures, c.from-end.ensures)
