-- Turn i merges the code of byte i with cell i. Only where one was unprintable are the positions told.
use mathlib.Core.Path.{◌≡◌}
use lib.ListN.{take}
use Rattle.seq.specs.Words.{any}
use Rattle.line.specs.Line.{unprintable, translated}
use Rattle.line.specs.Codes.{codes}
use Rattle.line.proofs.MergeLaws.{Merged}
use Rattle.line.proofs.merge.merge_record.Given as goal

abbrev pub invariant-loop-i : goal.invariant-loop-i
invariant-loop-i l =
    Merged l.initial.cells (translated l.pitches l.table l.sent) l.i l.cells l.clash
    × (l.bad ≡ any (unprintable l.pitches) (take l.i (codes l.table l.sent)))
