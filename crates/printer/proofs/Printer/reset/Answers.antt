-- Each part as the reset has it; a form that Start takes is a listed one.
use Rattle.form.proofs.FormLaws.{form-listed}
use Rattle.legends.specs.Legends.{no_legends}
use Rattle.calls.specs.Reset.{reset_stores, reset}
use Rattle.printer.proofs.Printer.reset.Goals as goal

pub start_state-self-requires : goal.start_state-self-requires
start_state-self-requires c = form-listed _ c.args.self.state.fixed.pitches c.requires.fixed

pub returns-clause-core : goal.returns-clause-core
unfolding reset reset_stores no_legends
returns-clause-core c = λ p. rw (c.start_state-self.ensures, c.start_tables.ensures, c.fill.ensures.after (λ y h. h), c.requires.legends)
