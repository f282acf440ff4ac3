-- Document 01, "Numbers": the table, a row a line. Every definition here is of that section.
use Rattle.std.specs.Prelude.{ℕ, ◌/◌, ◌%◌, Bool, false, eqb, Result, Ok, Err, is_ok}
use Rattle.std.proofs.Math.Option.{Option, none, some}
use Rattle.numbers.specs.declared.Sense.{Sense}
use Rattle.numbers.specs.declared.SenseStep.{SenseStep}
use Rattle.numbers.specs.declared.SenseStep.TheVariants.{Keep, Anew, NoSense}
use Rattle.numbers.specs.declared.Caused.{Caused}
use Rattle.numbers.specs.declared.Row.{Row}
use Rattle.numbers.specs.declared.Answer.{Answer}
use Rattle.numbers.specs.declared.Cause.{Cause}
use Rattle.numbers.specs.declared.Cause.TheVariants.{FcbChannel, FcbSpacing, FcbSum, FcbEdge, TableShort, SequencePairs, SequenceCounts, NumberRecord, SegmentEnds, SegmentFields}
use Rattle.numbers.specs.declared.Refusal.{Refusal}
use Rattle.numbers.specs.declared.Refusal.TheVariants.{Accepted, NotListed, BadRecord, LoadCheck, PageWaiting, PageStarted, NoPage, BadIndex, TooShort, BadStore, BadForm, TwoPages, NoneBetween, MostBetween, BadPaper}

-- Sense bytes 0, 1 and 2, the others 00.
abbrev pub sense3 : ℕ → ℕ → ℕ → Sense
sense3 a b c = record { b0 = a; b1 = b; b2 = c; b22 = 0; b23 = 0 }

abbrev pub no_sense : Sense
no_sense = sense3 0 0 0

-- The table's last column: the sense is kept, set anew, or none.
abbrev pub sense_after : Sense → SenseStep → Sense
sense_after s Keep = s
sense_after s (Anew t) = t
sense_after s NoSense = no_sense

-- A load check's sense, 02 with its cause, as the sections on the loads give it; and the number by which a packed answer names the cause.
-- n is the record's byte count, which the sum of an FCB shows, high byte first.
abbrev pub causing : ℕ → ℕ → ℕ → Caused
causing n b1 b2 = record { number = n; sense = sense3 0x02 b1 b2 }

abbrev pub sum_caused : ℕ → Caused
sum_caused n = record { number = 3; sense = record { b0 = 0x02; b1 = 0x08; b2 = 0; b22 = n / 256; b23 = n % 256 } }

unfoldable pub cause_of : ℕ → Cause → Caused
cause_of n FcbChannel = causing 1 0x10 0
cause_of n FcbSpacing = causing 2 0x40 0
cause_of n FcbSum = sum_caused n
cause_of n FcbEdge = causing 4 0x20 0
cause_of n TableShort = causing 5 0x80 0
cause_of n SequencePairs = causing 6 0x80 0
cause_of n SequenceCounts = causing 7 0 0x10
cause_of n NumberRecord = causing 8 0x80 0
cause_of n SegmentEnds = causing 9 0x80 0
cause_of n SegmentFields = causing 10 0 0x20

-- A row that names no cause, one with something to tell (unit check, sense bytes 0 and 1), and the row of a load check.
abbrev pub row_with : ℕ → ℕ → SenseStep → Row
row_with n s t = record { number = n; status = s; sense = t; cause = 0 }

abbrev pub row_telling : ℕ → ℕ → ℕ → Row
row_telling n b0 b1 = row_with n 0x0E (Anew (sense3 b0 b1 0))

abbrev pub check_row : Caused → Row
check_row c = record { number = 3; status = 0x0E; sense = Anew c.sense; cause = c.number }

-- The table of numbers. Row 0 has the status without its additions, and leaves the sense to the command. Row 5 is (house).
-- Rows 12 and 13 are T-02's, row 16 is T-04's.
unfoldable pub row_of : ℕ → Refusal → Row
row_of n Accepted = row_with 0 0x0C Keep
row_of n NotListed = row_telling 1 0x80 0x80
row_of n BadRecord = row_with 2 0x00 Keep
row_of n (LoadCheck c) = check_row (cause_of n c)
row_of n PageWaiting = row_with 4 0x10 Keep
row_of n PageStarted = row_telling 5 0x02 0
row_of n NoPage = row_with 6 0x00 Keep
row_of n BadIndex = row_with 7 0x00 Keep
row_of n TooShort = row_with 8 0x00 Keep
row_of n BadStore = row_with 9 0x00 Keep
row_of n BadForm = row_with 10 0x00 NoSense
row_of n TwoPages = row_with 11 0x00 Keep
row_of n NoneBetween = row_with 12 0x00 Keep
row_of n MostBetween = row_with 13 0x00 Keep
row_of n BadPaper = row_with 16 0x00 Keep

abbrev pub number_of : Refusal → ℕ
number_of x = (row_of 0 x).number

unfoldable pub is_accepted : Refusal → Bool
is_accepted x = eqb (number_of x) 0

-- An answer with no page ready, no lines moved, no copy, nothing unprintable: every refusal, and accepted calls that have none to tell.
abbrev pub only : Refusal → ℕ → Answer
only x status = record { refusal = x; status = status; ready = false; lines = 0; copy = 0; mark = 0; first = 0; count = 0 }

-- What a load's check of a record finds: nothing, or which cause of its load's order came first.
abbrev pub Checked : Type 0
Checked = Result Unit Cause

-- The same as an entry of an order.
unfoldable pub checked : Checked → Option Refusal
checked (Ok tt) = none
checked (Err c) = some (LoadCheck c)

abbrev pub is_sound : Checked → Bool
is_sound d = is_ok d
