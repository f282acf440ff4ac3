-- The printable lines are a part of the FCB (`lines-in-array`).
use Rattle.form.proofs.LayoutLaws.{lines-in-array}
use Rattle.calls.specs.Core.{lines_now}
use Rattle.calls.specs.Effects.{move_of}
use Rattle.printer.proofs.Printer.move_of.Goals as goal

pub returns : goal.returns
unfolding move_of lines_now
returns c = rw (← lines-in-array c.args.self.state.fixed.length c.args.self.state.forms, ← c.requires.layout) c.move_form.ensures
