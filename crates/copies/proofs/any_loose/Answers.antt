-- The answer is what was found so far, or what the bytes from place k on show.
use Rattle.std.proofs.Common.{sym, ◌∙◌, drop_of_length-le, rules}
use mathlib.Core.Bool.{or-false, or_assoc}
use Rattle.copies.proofs.JudgeLaws.{loose-more, loose_none, loose-is}
use Rattle.copies.proofs.any_loose.Goals as goal

pub loop-k-preserved : goal.loop-k-preserved
loop-k-preserved c few = let l = c.loop-k in
    let e = loose-more c.args.count l.k c.args.pairs.now (search rules) in
    l.invariant few ∙ rw (e, c.is_loose-found.ensures few) (sym (or_assoc l.found _ _))

pub returns : goal.returns
returns c few even = let l = c.loop-k in
    let a = c.args in
    let none = drop_of_length-le a.pairs.now {i = l.k} (search rules) in
    sym (l.invariant few ∙ rw (none, loose_none) (or-false l.found)) ∙ loose-is a.count a.pairs.now even (search rules)
