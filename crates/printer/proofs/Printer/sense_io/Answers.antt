-- The reply is the bytes over the front of the buffer; the rest is No-Op's answer, with the sense clear.
use Rattle.calls.specs.Reset.{sense_bytes}
use Rattle.calls.specs.Effects.{do_control}
use Rattle.printer.proofs.Printer.sense_io.Goals as goal

pub returns : goal.returns
unfolding do_control sense_bytes
returns c = λ m. rw (c.copy_from_slice.ensures.after, c.sense_bytes.ensures) (c.no_op.ensures m _)
