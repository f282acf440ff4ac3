-- Turn i mends code i, so the first i codes are mended, and the places of the unprintable ones among them are told.
use Rattle.std.proofs.Common.{◌≡◌, ◌≤◌, ℕ, List, map, cond}
use Rattle.seq.proofs.Loops.{filled}
use Rattle.line.specs.Line.{unprintable}
use Rattle.line.specs.Codes.{spaced}
use Rattle.line.proofs.UnprintableLaws.{Telling}
use Rattle.line.proofs.translate.mend_each.Given as goal

abbrev pub invariant-loop-i : goal.invariant-loop-i
invariant-loop-i g l = record {
  few : l.told.count ≤ l.i;
  cells : (cs : List ℕ) → l.initial.cells ≡ spaced g.row.STRIDE cs
      → l.cells ≡ spaced g.row.STRIDE (filled l.i (map (λ c. cond (unprintable l.pitches c) l.other c) cs) cs);
  told : (cs : List ℕ) → l.initial.cells ≡ spaced g.row.STRIDE cs → Telling (unprintable l.pitches) cs l.i l.told;
}
