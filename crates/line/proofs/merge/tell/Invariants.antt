-- After i turns the unprintable positions of the first i bytes are told.
use Rattle.std.proofs.Common.{get_or}
use Rattle.line.specs.Line.{unprintable}
use Rattle.line.proofs.UnprintableLaws.{Telling}
use Rattle.line.proofs.merge.tell.Given as goal

abbrev pub invariant-loop-i : goal.invariant-loop-i
invariant-loop-i l = Telling (λ b. unprintable l.pitches (get_or l.table b 0)) l.sent l.i l.told
