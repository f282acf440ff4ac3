-- The part lent is the slot that serves.
use Rattle.std.proofs.Common.{◌∙◌}
use native.Mathlib.Nat.{add-sub_cancel_left}
use Rattle.line.specs.Line.{serving, slot_at}
use Rattle.line.proofs.tables.serving.Goals as goal

pub returns : goal.returns
unfolding serving slot_at
returns c = let whole = rw c.unwrap.ensures at c.as_array.ensures.cases in
    whole.same ∙ simp (add-sub_cancel_left, c.from-at.ensures, c.serving_slot.ensures.0)
