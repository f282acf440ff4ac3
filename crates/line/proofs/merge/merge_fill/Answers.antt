-- A blank changes nothing; any other code is merged with one cell a turn.
use mathlib.Core.Path.{◌≡◌, sym, ◌∙◌}
use Prim.Native.Nat.{◌*◌, ◌<◌}
use lib.ListN.{length, replicate, length-replicate, get_or-replicate}
use borrow.Author.Rules.{rules}
use Rattle.line.proofs.MergeLaws.{merged-none, merged-more, merged-all, merge-blanks}
use Rattle.line.proofs.merge.merge_fill.Goals as goal

pub returns-then-is_blank : goal.returns-then-is_blank
returns-then-is_blank c = let a = c.args in
    let both = merge-blanks a.count a.code a.cells.now (sym c.is_blank.ensures ∙ c.if-is_blank.true) (search rules) in
    record { cells = both.0; clash = both.1 }

pub loop-i-init : goal.loop-i-init
loop-i-init c = merged-none _ _

pub loop-i-preserved : goal.loop-i-preserved
loop-i-preserved c = let l = c.loop-i in
    let a = c.args in
    let here : l.i < a.count = search rules in
    let room : length a.cells.now ≡ 2 * length (replicate a.count a.code) = rw (length-replicate a.count a.code) (search rules) in
    merged-more _ _ room (rw (length-replicate a.count a.code) here) l.invariant (sym (get_or-replicate a.count l.i a.code 0 here))
    c.merge_at-clash.ensures.cells c.merge_at-clash.ensures.clash

pub returns : goal.returns
returns c = let l = c.loop-i in
    let a = c.args in
    let both = merged-all _ _ (rw (length-replicate a.count a.code) (search rules)) (rw (length-replicate a.count a.code) (search rules)) l.invariant in
    record { cells = both.0; clash = both.1 }
