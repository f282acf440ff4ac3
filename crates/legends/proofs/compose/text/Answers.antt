-- The part from behind the six bytes, as long as the sixth says.
use native.Mathlib.Nat.{add-sub_cancel_left}
use Rattle.legends.specs.Legends.{segment_of}
use Rattle.legends.proofs.compose.text.Goals as goal

pub returns : goal.returns
unfolding segment_of
returns c = simp (c.segment_length.ensures.value, add-sub_cancel_left)
