-- Each turn paints one segment, and leaves those behind it. Legends that a printer can have are sound segments.
use mathlib.Core.Path.{sym, ◌∙◌}
use native.Mathlib.Omega.{arith}
use lib.ListN.{get_or-eq_default}
use borrow.Author.Tests.{eqb-true}
use Rattle.legends.proofs.ComposeLaws.{left_here, left_step, left_end}
use Rattle.legends.proofs.compose.paint_all.Goals as goal

pub paint-requires-clause-text_fits : goal.paint-requires-clause-text_fits
paint-requires-clause-text_fits c = (left_here _ _ _ _ c.if-rest-ne0.true c.loop-rest.invariant).size

pub paint-requires-clause-head_sound : goal.paint-requires-clause-head_sound
paint-requires-clause-head_sound c = (left_here _ _ _ _ c.if-rest-ne0.true c.loop-rest.invariant).head

pub after_first-rest-requires : goal.after_first-rest-requires
after_first-rest-requires c = (left_here _ _ _ _ c.if-rest-ne0.true c.loop-rest.invariant).size

pub loop-rest-preserved : goal.loop-rest-preserved
loop-rest-preserved c =
    rw (c.paint.ensures, c.after_first-rest.ensures.rest) (left_step _ _ _ _ c.if-rest-ne0.true c.loop-rest.invariant)

pub returns-else-rest-ne0 : goal.returns-else-rest-ne0
returns-else-rest-ne0 c = left_end _ _ _ _ c.if-rest-ne0.false c.loop-rest.invariant

pub returns-after-loop-rest : goal.returns-after-loop-rest
returns-after-loop-rest c =
    let none = eqb-true _ _ (sym c.is_empty.ensures ∙ c.loop-rest-test.false) in
    left_end _ _ _ _ (get_or-eq_default c.loop-rest.rest.now 0 {n = 0} (omega (arith, none))) c.loop-rest.invariant
