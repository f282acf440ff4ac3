-- Document 01, "Calls": the sizes of the lent stores, and of what is put into them and replied. Each stands here alone, and all else names it.
use Rattle.std.specs.Prelude.{ℕ, ◌*◌}

-- The page store: 132 lines of 204 cells. A cell is two bytes, its code and its rule mark (T-03).
abbrev pub cell_bytes : ℕ
cell_bytes = 2

abbrev pub line_width : ℕ
line_width = 204

abbrev pub line_bytes : ℕ
line_bytes = cell_bytes * line_width

abbrev pub page_lines : ℕ
page_lines = 132

abbrev pub page_size : ℕ
page_size = page_lines * line_bytes

-- The legend store; a load record has at most as many bytes (Numbers, 2).
abbrev pub legend_size : ℕ
legend_size = 8192

-- The table store: four slots of 256 bytes.
abbrev pub slot_size : ℕ
slot_size = 256

abbrev pub table_size : ℕ
table_size = 4 * slot_size

-- Reset and sense: the bytes that Sense replies.
abbrev pub sense_size : ℕ
sense_size = 24
