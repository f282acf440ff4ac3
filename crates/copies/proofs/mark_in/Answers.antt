-- The mark of copy k is that of copy `left` among the pairs from here on.
use Rattle.std.proofs.Common.{[], get_or, sym, ◌∙◌, add-one, drop-cons, drop_of_length-le, le-leb, rules}
use borrow.Author.Tests.{lt-leb}
use Rattle.copies.specs.Copies.{mark_in}
use Rattle.copies.proofs.mark_in.Goals as goal

pub returns-then-left-copies : goal.returns-then-left-copies
unfolding mark_in
returns-then-left-copies c = let l = c.loop-copies in
    let ps = c.pairs_in-copies-items.result.now in
    let d = drop-cons ps l.copies-index [] (search rules) in
    sym (l.invariant ∙ rw d (simp (le-leb l.left (get_or (get_or ps l.copies-index []) 0 0) (search rules))))

pub loop-copies-preserved : goal.loop-copies-preserved
unfolding mark_in
loop-copies-preserved c = let l = c.loop-copies in
    let ps = c.pairs_in-copies-items.result.now in
    let d = drop-cons ps l.copies-index [] (search rules) in
    l.invariant ∙ rw (d, c.from-copies.ensures, add-one) (simp (lt-leb l.left (get_or (get_or ps l.copies-index []) 0 0) (search rules)))

pub returns : goal.returns
unfolding mark_in
returns c = let l = c.loop-copies in
    let none = drop_of_length-le c.pairs_in-copies-items.result.now {i = l.copies-index} (search rules) in
    sym (l.invariant ∙ rw none)
