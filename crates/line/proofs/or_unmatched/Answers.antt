-- Field by field the definition's.
use mathlib.Core.Path.{refl}
use Rattle.line.specs.Line.{or_unmatched}
use Rattle.line.proofs.or_unmatched.Goals as goal

pub returns : goal.returns
unfolding or_unmatched
returns c = refl
