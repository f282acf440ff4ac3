-- Of the four flags, each asked for at its place, the selected slot's decides.
use borrow.Author.Rules.{rules}
use Rattle.line.proofs.TableLaws.{loaded-by-place}
use Rattle.line.proofs.tables.is_loaded.Goals as goal

pub returns : goal.returns
returns c = loaded-by-place c.args.slots (search rules)
