-- The words of what is promised about T-03 over calls: the code and the mark of a cell of the page, counted from 0, and what a call makes of the mark.
use Rattle.std.specs.Prelude.{ℕ, ◌%◌, cond, List, get_or, eqb}
use Rattle.numbers.specs.Sizes.{line_width}
use Rattle.numbers.specs.Numbers.{is_accepted}
use Rattle.line.specs.declared.Cell.{Cell}
use Rattle.line.specs.Cells.{unruled, cells_in}
use Rattle.line.specs.Line.{serving, line_codes}
use Rattle.line.specs.Rules.{makes_rule}
use Rattle.legends.specs.Legends.{line_of}
use Rattle.calls.specs.declared.Command.{Command}
use Rattle.calls.specs.declared.Command.TheVariants.{Write, Move, Controls, Loads, Unlisted}
use Rattle.calls.specs.Core.{Core}
use Rattle.calls.specs.Commands.{decode}
use Rattle.calls.specs.Calls.{Call, command, compose, release, tally, refusal_of}

abbrev pub cell_in : List ℕ → ℕ → Cell
cell_in page n = get_or (cells_in page) n (unruled 0)

abbrev pub cell_at : Core → ℕ → Cell
cell_at k n = cell_in k.stores.page n

-- The code that a write of the record r has for cell n.
abbrev pub sent_at : Core → List ℕ → ℕ → ℕ
sent_at k r n = get_or (line_codes k.state.fixed.pitches (serving k.state.slots k.stores.tables) r) (n % line_width) 0

-- A write of r, on cell n of its line: the first one leaves no mark; a later one sets it where a character meets an underscore, and else keeps it.
unfoldable pub mark_written : Core → List ℕ → ℕ → ℕ
mark_written k r n = cond k.state.sheet.written (cond (makes_rule (cell_at k n).code (sent_at k r n)) 1 (cell_at k n).mark) 0

-- An accepted command: a write alone changes marks, and those of the current line alone.
unfoldable pub mark_commanded : Core → Command → List ℕ → ℕ → ℕ
mark_commanded k (Write m) r n = cond (eqb (line_of n) k.state.sheet.line) (mark_written k r n) (cell_at k n).mark
mark_commanded k (Move m) r n = (cell_at k n).mark
mark_commanded k (Controls c) r n = (cell_at k n).mark
mark_commanded k (Loads l) r n = (cell_at k n).mark
mark_commanded k Unlisted r n = (cell_at k n).mark

-- An accepted call: a Release takes all marks away.
unfoldable pub mark_done : Core → Call → ℕ → ℕ
mark_done k (command i) n = mark_commanded k (decode i.byte) i.sent n
mark_done k (compose c out) n = (cell_at k n).mark
mark_done k release n = 0
mark_done k (tally t) n = (cell_at k n).mark

unfoldable pub mark_by : Core → Call → ℕ → ℕ
mark_by k c n = cond (is_accepted (refusal_of k c)) (mark_done k c n) (cell_at k n).mark
