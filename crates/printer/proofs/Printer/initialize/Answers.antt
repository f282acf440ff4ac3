-- Started or not, as the definition has it; what is reported does not depend on the line.
use mathlib.Core.Path.{sym, ◌∙◌}
use Rattle.movement.specs.Movement.{still}
use Rattle.line.specs.Line.{no_causes}
use Rattle.calls.specs.Effects.{done, completing, do_control}
use Rattle.printer.proofs.Printer.initialize.Goals as goal

pub returns-then-is_started : goal.returns-then-is_started
unfolding do_control completing
returns-then-is_started c = λ p b. rw (sym c.is_started.ensures ∙ c.if-is_started.true) (c.complete.ensures _ b)

pub returns-else-is_started : goal.returns-else-is_started
unfolding do_control completing done still no_causes
returns-else-is_started c = λ p b. rw (sym c.is_started.ensures ∙ c.if-is_started.false, ← c.reset.ensures.core p) (c.stand.ensures _ b)
