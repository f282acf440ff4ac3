-- After so many turns no cell of the last blocks has a bad mark. The block at the front has all before them.
use Rattle.std.proofs.Common.{◌≡◌, ◌*◌, ◌-◌, false, drop}
use Rattle.seq.specs.Words.{any}
use Rattle.line.specs.Cells.{cells_in}
use Rattle.line.specs.Scan.{bad_mark}
use Rattle.line.proofs.marks.marks_ok.Given as goal

abbrev pub invariant-loop-turn : goal.invariant-loop-turn
invariant-loop-turn l = any bad_mark (drop (l.cells - 512 * l.turn) (cells_in l.page)) ≡ false
