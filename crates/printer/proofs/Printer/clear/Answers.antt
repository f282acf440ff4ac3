-- Started or not, as the definition has it.
use mathlib.Core.Path.{sym, ◌∙◌}
use Rattle.line.specs.Line.{no_causes}
use Rattle.calls.specs.Effects.{completing, do_control}
use Rattle.printer.proofs.Printer.clear.Goals as goal

pub returns-then-not-is_started : goal.returns-then-not-is_started
unfolding do_control completing no_causes
returns-then-not-is_started c = λ m b. rw (sym c.is_started.ensures ∙ c.if-not-is_started.true) (c.stand.ensures m b)

pub returns : goal.returns
unfolding do_control completing no_causes
returns c = λ m b. rw (sym c.is_started.ensures ∙ c.if-not-is_started.false) (c.complete.ensures m b)
