-- One return for each test, in the definition's order.
use mathlib.Core.Path.{sym, ◌∙◌}
use borrow.Author.Tests.{lt-ltb, le-ltb}
use Rattle.seq.specs.Words.{first_or, when}
use Rattle.legends.proofs.segment_check.Goals as goal

pub returns-then-s-lt-HEAD_BYTES : goal.returns-then-s-lt-HEAD_BYTES
unfolding first_or when
returns-then-s-lt-HEAD_BYTES c = simp (lt-ltb _ _ c.if-s-lt-HEAD_BYTES.true)

pub returns-then-bad_head : goal.returns-then-bad_head
unfolding first_or when
returns-then-bad_head c = simp (le-ltb _ _ c.if-s-lt-HEAD_BYTES.false, sym c.bad_head.ensures ∙ c.if-bad_head.true)

pub returns-then-s-segment_length : goal.returns-then-s-segment_length
unfolding first_or when
returns-then-s-segment_length c =
    let short = rw c.segment_length.ensures.value at c.if-s-segment_length.true in
    simp (le-ltb _ _ c.if-s-lt-HEAD_BYTES.false, sym c.bad_head.ensures ∙ c.if-bad_head.false, lt-ltb _ _ short)

pub returns : goal.returns
unfolding first_or when
returns c =
    let whole = rw c.segment_length.ensures.value at c.if-s-segment_length.false in
    simp (le-ltb _ _ c.if-s-lt-HEAD_BYTES.false, sym c.bad_head.ensures ∙ c.if-bad_head.false, le-ltb _ _ whole)
