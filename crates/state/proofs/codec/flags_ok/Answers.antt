-- Each flag, in the order of its place.
use mathlib.Core.Bool.{and-true, and_assoc}
use Rattle.state.proofs.codec.flags_ok.Goals as goal

pub returns : goal.returns
returns c = simp (and-true, and_assoc)
