-- The bytes before this one are looked at.
use Rattle.std.proofs.Common.{◌≡◌, take}
use Rattle.seq.specs.Words.{any}
use Rattle.form.specs.Form.{has_channel}
use Rattle.form.proofs.fcb.any_channel.Given as goal

abbrev pub invariant-loop-b : goal.invariant-loop-b
invariant-loop-b l = l.found ≡ any has_channel (take l.b-index l.lines)
