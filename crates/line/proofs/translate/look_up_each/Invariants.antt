-- Turn i writes code i, so the first i codes are the record's, and what is put together is above FF where one of these is FF.
use Rattle.std.proofs.Common.{◌≡◌, ℕ, List, length, take, ltb}
use Rattle.seq.specs.Words.{any}
use Rattle.seq.proofs.Loops.{filled}
use Rattle.line.specs.Codes.{codes, spaced}
use Rattle.line.proofs.translate.look_up_each.Given as goal

abbrev pub invariant-loop-i : goal.invariant-loop-i
invariant-loop-i g l = record {
  seen : ltb 0xFF l.seen ≡ any (ltb 0xFE) (take l.i (codes l.table l.sent));
  cells : (cs : List ℕ) → length cs ≡ length l.sent → l.initial.cells ≡ spaced g.row.STRIDE cs
      → l.cells ≡ spaced g.row.STRIDE (filled l.i (codes l.table l.sent) cs);
}
