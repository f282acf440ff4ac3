-- Each turn paints the text into one row more.
use mathlib.Core.Path.{◌≡◌}
use mathlib.Core.List.{[], ◌∷◌}
use Prim.Native.Nat.{◌-◌, ◌≤◌}
use Rattle.line.specs.Cells.{cells_in}
use Rattle.legends.specs.Legends.{copy_from}
use Rattle.legends.proofs.ComposeLaws.{text_rows}
use Rattle.legends.proofs.compose.paint_rows.Given as goal

abbrev pub invariant-loop-row : goal.invariant-loop-row
invariant-loop-row l = record {
  within : l.row - l.first ≤ l.end - l.first;
  painted : cells_in l.out ≡ copy_from (text_rows l.text l.first l.place l.row ∷ []) 0 0 (cells_in l.fn.out);
}
