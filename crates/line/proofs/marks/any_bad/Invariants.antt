-- After k turns the words of 2 k cells are put together, and tell whether one of their marks is bad.
use mathlib.Core.Path.{◌≡◌}
use Prim.Native.Nat.{◌*◌}
use lib.ListN.{take}
use Rattle.seq.specs.Words.{any}
use Rattle.line.specs.Cells.{cells_in}
use Rattle.line.specs.Scan.{bad_mark, bad_word}
use Rattle.line.proofs.marks.any_bad.Given as goal

abbrev pub invariant-loop-k : goal.invariant-loop-k
invariant-loop-k l = bad_word l.seen ≡ any bad_mark (take (2 * l.k) (cells_in l.block))
