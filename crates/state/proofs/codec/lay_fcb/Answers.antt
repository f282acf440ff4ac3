-- The array over its place.
use lib.Seq.{drop-drop}
use Rattle.form.specs.Form.{fcb_size}
use Rattle.printer.specs.Layout.{fcb_at}
use Rattle.state.proofs.codec.lay_fcb.Goals as goal

pub returns : goal.returns
returns c = rw (c.copy_from_slice.ensures.after, drop-drop fcb_size fcb_at c.args.s.now)
