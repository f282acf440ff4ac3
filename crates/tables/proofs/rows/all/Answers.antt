-- Each refusal stands at its place in the list.
use Rattle.std.proofs.Common.{refl, arith}
use Rattle.numbers.specs.declared.Cause.TheVariants.{FcbChannel, FcbSpacing, FcbSum, FcbEdge, TableShort, SequencePairs, SequenceCounts, NumberRecord, SegmentEnds, SegmentFields}
use Rattle.numbers.specs.declared.Refusal.TheVariants.{Accepted, NotListed, BadRecord, LoadCheck, PageWaiting, PageStarted, NoPage, BadIndex, TooShort, BadStore, BadForm, TwoPages, NoneBetween, MostBetween, BadPaper}
use Rattle.tables.proofs.rows.all.Goals as goal

pub returns : goal.returns
returns c Accepted = (0, omega arith, refl)
returns c NotListed = (1, omega arith, refl)
returns c BadRecord = (2, omega arith, refl)
returns c (LoadCheck FcbChannel) = (3, omega arith, refl)
returns c (LoadCheck FcbSpacing) = (4, omega arith, refl)
returns c (LoadCheck FcbSum) = (5, omega arith, refl)
returns c (LoadCheck FcbEdge) = (6, omega arith, refl)
returns c (LoadCheck TableShort) = (7, omega arith, refl)
returns c (LoadCheck SequencePairs) = (8, omega arith, refl)
returns c (LoadCheck SequenceCounts) = (9, omega arith, refl)
returns c (LoadCheck NumberRecord) = (10, omega arith, refl)
returns c (LoadCheck SegmentEnds) = (11, omega arith, refl)
returns c (LoadCheck SegmentFields) = (12, omega arith, refl)
returns c PageWaiting = (13, omega arith, refl)
returns c PageStarted = (14, omega arith, refl)
returns c NoPage = (15, omega arith, refl)
returns c BadIndex = (16, omega arith, refl)
returns c TooShort = (17, omega arith, refl)
returns c BadStore = (18, omega arith, refl)
returns c BadForm = (19, omega arith, refl)
returns c TwoPages = (20, omega arith, refl)
returns c NoneBetween = (21, omega arith, refl)
returns c MostBetween = (22, omega arith, refl)
returns c BadPaper = (23, omega arith, refl)
