-- The definition's two tests.
use mathlib.Core.Path.{refl}
use Rattle.line.specs.Scan.{bad_word}
use Rattle.line.proofs.marks.is_bad.Goals as goal

pub returns : goal.returns
unfolding bad_word
returns c = refl
