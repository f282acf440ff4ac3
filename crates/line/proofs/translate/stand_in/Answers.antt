-- The definition's choice, on the code for 40.
use mathlib.Core.Path.{sym, ◌∙◌}
use Rattle.line.specs.Line.{stand_in}
use Rattle.line.proofs.translate.stand_in.Goals as goal

pub returns-then-is_bad : goal.returns-then-is_bad
unfolding stand_in
returns-then-is_bad c = rw (sym c.is_bad.ensures ∙ c.if-is_bad.true)

pub returns-else-is_bad : goal.returns-else-is_bad
unfolding stand_in
returns-else-is_bad c = rw (sym c.is_bad.ensures ∙ c.if-is_bad.false)
