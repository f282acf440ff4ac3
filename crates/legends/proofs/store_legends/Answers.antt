-- Each turn writes the cells of the segment at `at`, and what is left gives the rest of the store and of the answer.
use mathlib.Core.List.{append-nil}
use Prim.Native.Nat.{◌-◌}
use native.Mathlib.Nat.{add-sub_cancel_left}
use native.Mathlib.Omega.{arith}
use lib.ListN.{length, drop, length-drop, drop_of_length-le}
use Rattle.seq.proofs.Laws.{take_rest}
use Rattle.legends.proofs.StoredLaws.{storing-start, next-head, next, storing-step, storing-cells, storing-found}
use Rattle.legends.proofs.store_legends.Goals as goal

pub loop-at-init : goal.loop-at-init
loop-at-init c = storing-start _ _ _ _ c.requires.sent_fits c.requires.legends_len c.requires.sent_sound

pub segment_length-requires : goal.segment_length-requires
segment_length-requires c = next-head c.loop-at.invariant c.loop-at-test.true

pub overflow_add-end : goal.overflow_add-end
overflow_add-end c = omega (arith, next c.loop-at.invariant c.loop-at-test.true c.segment_length.ensures.value)

pub slice_bounds-store_segment-end : goal.slice_bounds-store_segment-end
slice_bounds-store_segment-end c = omega (arith, next c.loop-at.invariant c.loop-at-test.true c.segment_length.ensures.value, c.loop-at.invariant)

pub slice_bounds-store_segment-end-in-loop-at : goal.slice_bounds-store_segment-end-in-loop-at
slice_bounds-store_segment-end-in-loop-at c = omega (arith, next c.loop-at.invariant c.loop-at-test.true c.segment_length.ensures.value)

pub loop-at-preserved : goal.loop-at-preserved
loop-at-preserved c =
    let l = c.loop-at in
    let stored = simp add-sub_cancel_left at c.store_segment-found.ensures in
    simp add-sub_cancel_left
    (storing-step l.invariant c.loop-at-test.true c.segment_length.ensures.value _ _ stored.to (stored.found l.invariant.places l.invariant.tells))

pub returns-clause-legends : goal.returns-clause-legends
returns-clause-legends c =
    let whole = rw c.unwrap-table.ensures at c.as_array.ensures.cases in
    let rest = drop (length c.args.sent.now) c.loop-at.legends in
    let none = drop_of_length-le rest {i = length c.loop-at.legends - length c.args.sent.now} (rw length-drop (omega arith)) in
    rw (c.fill.ensures.after (λ y h. h), take_rest, length-drop, none, append-nil, c.loop-at.invariant.size, ← whole.same)
    (storing-cells c.loop-at.invariant c.loop-at-test.false)

pub returns-clause-found : goal.returns-clause-found
returns-clause-found c =
    let whole = rw c.unwrap-table.ensures at c.as_array.ensures.cases in
    rw (← whole.same) (storing-found c.loop-at.invariant c.loop-at-test.false)
