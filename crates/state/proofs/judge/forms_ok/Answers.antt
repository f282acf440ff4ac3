-- The range, the current line among the lines laid out, and the check of the layout, which is the check of the FCB's bytes.
use mathlib.Core.Bool.{and-true}
use Rattle.seq.specs.Words.{every}
use Rattle.form.specs.Form.{layout_of, fcb_check}
use Rattle.calls.specs.Core.{lines_now}
use Rattle.calls.specs.Contents.{line_ok}
use Rattle.state.specs.State.{state_at}
use Rattle.state.specs.Contents.{forms_line_ok}
use Rattle.state.proofs.judge.forms_ok.Goals as goal

pub returns : goal.returns
unfolding forms_line_ok line_ok every lines_now layout_of fcb_check state_at
returns c = simp (c.is_ok.ensures.value, c.layout_check-found.ensures, c.fixed.ensures, c.from-line.ensures, c.requires.range_value, c.requires.layout_value, and-true)
