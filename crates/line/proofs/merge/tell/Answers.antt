-- After i turns the unprintable positions of the first i bytes are told.
use Rattle.std.proofs.Common.{sym, ap, ◌∙◌, rules}
use Rattle.line.specs.Line.{unprintable, unprintable_at}
use Rattle.line.proofs.UnprintableLaws.{telling-with, telling-past, telling-few, telling-all}
use Rattle.line.proofs.merge.tell.Goals.{then-is_bad, else-is_bad}
use Rattle.line.proofs.merge.tell.Goals as goal

-- the count goes no further than the bytes do
pub with-told-requires-clause-few : goal.with-told-requires-clause-few
with-told-requires-clause-few c = telling-few _ _ c.loop-i.invariant

pub loop-i-preserved : goal.loop-i-preserved
loop-i-preserved c = let l = c.loop-i in
    let found = ap (unprintable c.args.pitches) (sym c.entry.ensures) ∙ sym c.is_bad.ensures in
    elim c.if-is_bad.branch [
      | then-is_bad w ↦ telling-with _ _ (search rules) l.invariant (found ∙ w.if-is_bad.true) (w.told-is ∙ w.with-told.ensures.told _ l.invariant.are)
      | else-is_bad w ↦ telling-past _ _ (search rules) l.invariant (found ∙ w.if-is_bad.false) w.told-is
    ]

pub returns : goal.returns
unfolding unprintable_at
returns c = telling-all _ _ (search rules) c.loop-i.invariant
