-- The forms stored, the form at line 1, then nothing moved; what is reported does not depend on the line.
use Rattle.movement.specs.Movement.{still}
use Rattle.form.specs.Form.{forms_of}
use Rattle.line.specs.Line.{no_causes}
use Rattle.calls.specs.Effects.{done, at_line1, loaded, load_causes, do_load}
use Rattle.printer.proofs.Printer.load_fcb.Goals as goal

pub returns : goal.returns
unfolding do_load loaded load_causes at_line1 no_causes done still forms_of
returns c = λ m b. rw (← c.padded.ensures) (c.stand.ensures m b)
