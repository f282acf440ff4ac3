-- How the code looks for marks above 1: in a cell, and in two cells as one number.
use Rattle.std.specs.Prelude.{ℕ, ◌%◌, Bool, ◌||◌, ltb}
use Rattle.line.specs.declared.Cell.{Cell}

abbrev pub bad_mark : Cell → Bool
bad_mark c = ltb 1 c.mark

unfoldable pub bad_word : ℕ → Bool
bad_word w = ltb 0x1FF (w % 0x10000) || ltb 0x1FFFFFF w
