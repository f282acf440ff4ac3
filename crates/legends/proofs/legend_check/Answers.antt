-- Where the sound segments end, the record does, or the first fault stands.
use mathlib.Core.Path.{sym, ◌∙◌}
use native.Mathlib.Omega.{arith}
use borrow.Author.Tests.{eqb-true, eqb-false}
use Rattle.legends.proofs.SegmentLaws.{judged-none, judged-faulty, check-none, check-some}
use Rattle.legends.proofs.legend_check.Goals as goal

pub returns-then-is_empty : goal.returns-then-is_empty
returns-then-is_empty c = sym (check-none _ (eqb-true _ _ (sym c.is_empty.ensures ∙ c.if-is_empty.true)))

pub returns-then-is_empty-2 : goal.returns-then-is_empty-2
returns-then-is_empty-2 c =
    let some = eqb-false _ _ (sym c.is_empty.ensures ∙ c.if-is_empty.false) in
    let none = eqb-true _ _ (sym c.is_empty-2.ensures ∙ c.if-is_empty-2.true) in
    sym (check-some _ (omega (arith, some)) ∙ c.after_sound-rest.ensures.checked ∙ judged-none _ none)

pub returns : goal.returns
returns c =
    let some = eqb-false _ _ (sym c.is_empty.ensures ∙ c.if-is_empty.false) in
    let more = eqb-false _ _ (sym c.is_empty-2.ensures ∙ c.if-is_empty-2.false) in
    let rest = c.after_sound-rest.ensures in
    c.segment_check.ensures ∙ sym (check-some _ (omega (arith, some)) ∙ rest.checked ∙ judged-faulty _ (omega (arith, more)) rest.stops)
