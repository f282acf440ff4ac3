-- T-06: how the code writes straight on a line: cells without a mark, one cell read and put, what is found.
use Rattle.std.specs.Prelude.{ℕ, ◌+◌, Bool, List, map, get_or, set}
use Rattle.line.specs.declared.Cell.{Cell}
use Rattle.line.specs.declared.Found.{Found}
use Rattle.line.specs.Cells.{unruled, stored}
use Rattle.line.specs.Line.{told}

abbrev pub plain : List ℕ → List ℕ
plain cs = stored (map unruled cs)

abbrev pub cell_from : ℕ → List ℕ → Cell
cell_from at bs = record { code = get_or bs at 0; mark = get_or bs (at + 1) 0 }

abbrev pub put_cell : ℕ → Cell → List ℕ → List ℕ
put_cell at c bs = set (set bs at c.code) (at + 1) c.mark

abbrev pub found_of : List ℕ → Bool → Found
found_of ns clash = record { unprintables = told ns; collision = clash }
