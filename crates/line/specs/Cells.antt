-- Document 02, T-03: a stored cell is two bytes, its code and its rule mark. The cells of the page and of a composed copy are such.
use Rattle.std.specs.Prelude.{ℕ, Bool, true, ◌&&◌, List, [], ◌∷◌, leb}
use Rattle.line.specs.declared.Cell.{Cell}

-- A code without the mark, and one with it.
abbrev pub unruled : ℕ → Cell
unruled c = record { code = c; mark = 0 }

abbrev pub ruled : ℕ → Cell
ruled c = record { code = c; mark = 1 }

-- Cells as bytes, the code first; and the cells that bytes stand for.
unfoldable pub stored : List Cell → List ℕ
stored [] = []
stored (c ∷ cs) = c.code ∷ c.mark ∷ stored cs

unfoldable pub cells_in : List ℕ → List Cell
cells_in [] = []
cells_in (c ∷ []) = []
cells_in (c ∷ m ∷ bs) = record { code = c; mark = m } ∷ cells_in bs

-- A mark is 0 or 1, in every cell of a page.
unfoldable pub marks_ok : List ℕ → Bool
marks_ok [] = true
marks_ok (c ∷ []) = true
marks_ok (c ∷ m ∷ bs) = leb m 1 && marks_ok bs
