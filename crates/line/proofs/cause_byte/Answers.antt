-- The sum of the four flags.
use borrow.Author.Rules.{rules}
use Rattle.line.specs.Line.{cause_byte}
use Rattle.line.proofs.cause_byte.Goals as goal

pub returns : goal.returns
unfolding cause_byte
returns c = search rules
