-- The sequence stored, then nothing moved.
use borrow.Author.Rules.{rules}
use Rattle.line.specs.Line.{no_causes}
use Rattle.copies.specs.Copies.{with_sequence}
use Rattle.calls.specs.Effects.{loaded, load_causes, do_load}
use Rattle.printer.proofs.Printer.load_sequence.Goals as goal

pub returns : goal.returns
unfolding do_load loaded load_causes no_causes with_sequence
returns c = search rules
