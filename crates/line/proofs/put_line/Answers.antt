-- The definition's two cases.
use Rattle.std.proofs.Common.{ℕ, List, ap, ◌∙◌}
use Rattle.line.specs.Cells.{stored, cells_in}
use Rattle.line.specs.Line.{unprintable_at, line_codes, any_collides, merge_line, cells_after}
use Rattle.line.specs.Straight.{found_of}
use Rattle.line.proofs.put_line.Goals as goal

pub returns-then-later : goal.returns-then-later
unfolding cells_after
returns-then-later c = let a = c.args in
    let whole = rw c.unwrap-cells.ensures at c.as_mut_array.ensures.cases in
    let codes = line_codes a.pitches a.table.now a.sent.now in
    let ns = unprintable_at a.pitches a.table.now a.sent.now in
    rw c.if-later.true (record {
      cells = c.merge_line.ensures.cells ∙ ap (λ (s : List ℕ). stored (merge_line (cells_in s) codes)) whole.same;
      found = c.merge_line.ensures.found ∙ ap (λ (s : List ℕ). found_of ns (any_collides (cells_in s) codes)) whole.same;
    })

pub returns-else-later-clause-cells : goal.returns-else-later-clause-cells
unfolding cells_after
returns-else-later-clause-cells c = rw c.if-later.false c.set_line-unprintables.ensures.cells
