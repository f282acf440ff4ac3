-- The part lent is the slot, and the record's front is copied over it.
use native.Mathlib.Nat.{add-sub_cancel_left}
use native.Mathlib.Omega.{arith}
use lib.ListN.{length-take, length-drop}
use Rattle.line.specs.Line.{put_slot}
use Rattle.line.proofs.tables.load_slot.Goals as goal

pub copy_from_slice-requires : goal.copy_from_slice-requires
copy_from_slice-requires c = simp (length-take, length-drop, c.from-at.ensures) (omega arith)

pub returns : goal.returns
unfolding put_slot
returns c = simp (add-sub_cancel_left, c.from-at.ensures, c.copy_from_slice.ensures.after)
