-- With all modules fitted FF alone is unprintable; else the code's own module decides too.
use mathlib.Core.Path.{sym, ◌∙◌}
use borrow.Author.Rules.{rules}
use Rattle.line.specs.Line.{unprintable}
use Rattle.line.proofs.CellLaws.{fitted-is}
use Rattle.line.proofs.translate.is_bad.Goals as goal

pub returns-then-fitted : goal.returns-then-fitted
returns-then-fitted c = let a = c.args in
    fitted-is a.pitches a.code (search rules) (search rules) (sym c.fitted.ensures ∙ c.if-fitted.true)

pub returns-else-fitted : goal.returns-else-fitted
unfolding unprintable
returns-else-fitted c = rw c.from.ensures
