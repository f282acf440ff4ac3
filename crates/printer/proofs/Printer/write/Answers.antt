-- The line written, then moved from, then all is finished.
use borrow.Author.Rules.{rules}
use Rattle.calls.specs.Effects.{do_write, written, write_causes, written_sheet}
use Rattle.printer.proofs.Printer.write.Goals as goal

pub returns : goal.returns
unfolding do_write written write_causes written_sheet
returns c = search rules
