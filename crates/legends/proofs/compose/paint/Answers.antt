-- A segment of another copy leaves the lines; of this copy, its rows are painted as far as there are lines.
use mathlib.Core.Path.{ap, ◌∙◌}
use native.Mathlib.Omega.{arith}
use lib.ListN.{length}
use Rattle.line.specs.Cells.{cells_in}
use Rattle.line.proofs.StoredLaws.{length-cells}
use Rattle.legends.proofs.ComposeLaws.{placed, length-text, other-segment, this-segment}
use Rattle.legends.proofs.compose.paint.Goals as goal
use Rattle.legends.proofs.compose.paint.Goals.{then-number-first-via-then-number-first, then-number-first-via-else-number-first+then-first-from}

pub returns-then-number-first : goal.returns-then-number-first
returns-then-number-first c =
    let other = other-segment _ _ c.read-head.ensures c.requires.head_sound c.requires.text_fits c.args.number (cells_in c.args.out.now) in
    elim c.then-number-first.branch [
      | then-number-first-via-then-number-first w ↦ other (λ h. omega (arith, h, w.if-number-first.true))
      | then-number-first-via-else-number-first+then-first-from w ↦ other (λ h. omega (arith, h, w.if-first-from.true))
    ]

pub overflow_sub-row : goal.overflow_sub-row
overflow_sub-row c = omega (arith, placed _ _ c.read-head.ensures c.requires.head_sound c.requires.text_fits)

pub overflow_sub-place : goal.overflow_sub-place
overflow_sub-place c = omega (arith, placed _ _ c.read-head.ensures c.requires.head_sound c.requires.text_fits)

pub paint_rows-requires-clause-text_fits : goal.paint_rows-requires-clause-text_fits
paint_rows-requires-clause-text_fits c =
    let r = c.requires in
    omega (
      arith,
      placed _ _ c.read-head.ensures r.head_sound r.text_fits,
      ap length c.text.ensures ∙ length-text _ _ c.read-head.ensures r.head_sound r.text_fits,
    )

pub returns : goal.returns
returns c =
    let a = c.args in
    let r = c.requires in
    rw (c.paint_rows.ensures, c.text.ensures, c.min-end.ensures, c.from-row.ensures, c.from-2.ensures, c.from-place.ensures)
    (this-segment _ _ c.read-head.ensures r.head_sound r.text_fits a.number (cells_in a.out.now) a.lines (omega arith, omega arith)
    (length-cells a.out.now ∙ omega (arith, r.out_len)))
