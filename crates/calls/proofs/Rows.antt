-- Document 01, "Rows for the table": R1 to R12, rows of our own, and rows for the requests of document 02, proved by computation.
use Prim.Native.Nat.{ℕ, ◌+◌, ◌*◌, ◌-◌}
use mathlib.Core.Path.{◌≡◌, refl, sym, ap, ◌∙◌}
use mathlib.Core.Bool.{Bool, true, false}
use mathlib.Core.List.{List, [], ◌∷◌, ◌++◌, map, map-append, flatten, zip_with}
use lib.ListN.{length, replicate, take, drop}
use Rattle.std.proofs.lemmas.List.{take-append-drop}
use Rattle.seq.specs.Words.{from, bit, zeros, when, first_or, every, padded}
use Rattle.numbers.specs.Sizes.{line_width, line_bytes, page_size, legend_size, slot_size, table_size, sense_size}
use Rattle.numbers.specs.declared.Sense.{Sense}
use Rattle.numbers.specs.declared.Answer.{Answer}
use Rattle.numbers.specs.declared.Cause.TheVariants.{FcbSpacing, FcbSum, SequenceCounts, SegmentEnds, SegmentFields}
use Rattle.numbers.specs.declared.Refusal.{Refusal}
use Rattle.numbers.specs.declared.Refusal.TheVariants.{Accepted, NotListed, LoadCheck, PageWaiting, PageStarted, BadForm, NoneBetween}
use Rattle.numbers.specs.Numbers.{sense3, no_sense, cause_of, row_of, is_accepted, checked}
use Rattle.form.specs.declared.Forms.{Forms}
use Rattle.form.specs.Form.{form_lengths, pitches_listed, pitches_ok, form_ok, units_of, runs_from, runs, units_total, lines_where, printable, edges, fcb_check, layout_check, layout_of, channel_at, start_fcb, fcb_size, forms_of, forms_in_range}
use Rattle.movement.specs.Movement.{entered, round, up_to_first, spaced, skipped, moved, is_there, still, to_top}
use Rattle.line.specs.declared.Cell.{Cell}
use Rattle.line.specs.declared.Slots.{Slots}
use Rattle.line.specs.Cells.{unruled, ruled, stored, cells_in, marks_ok}
use Rattle.line.specs.Line.{slot_at, put_slot, is_loaded, serving, unprintable, stand_in, code_of, translated, unprintable_at, line_codes, merge_rules, merge_cell, collides, merge_line, any_collides, cells_after, line_at, put_line, page_written, no_causes, text_causes, line_causes, or_unmatched, cause_byte, start_table, start_tables, start_slots, slots_in_range}
use Rattle.copies.specs.declared.Copies.{Copies}
use Rattle.copies.specs.Copies.{pair_size, table_check, pairs_of, copies_of, sequence_check, mark_in, number_check, with_sequence, with_reference, start_copies, copy_count, copy_number, copy_mark, copies_in_range}
use Rattle.legends.specs.Legends.{segment_of, bad_head, cut, segments, legend_check, stored_legends, unprintable_in_texts, stored_segments, legends_ok, no_legends, covers, shown, copy_from, composed}
use Rattle.counters.specs.declared.Tally.TheVariants.{Transferred, Fused, Stacked, Cancel, Restart}
use Rattle.counters.specs.Counters.{counters, counted, transferred, fused, stacked, cancelled, restarted, tallied, none_between, counters_ok}
use Rattle.calls.specs.declared.Sheet.{Sheet}
use Rattle.calls.specs.declared.State.{State}
use Rattle.calls.specs.Core.{Stores, World, with_blocked, with_forms, with_slots, with_copies, with_counters, sizes_ok, lines_now, started}
use Rattle.calls.specs.Commands.{issued, codes, look_up, decode, control_traits, traits_of}
use Rattle.calls.specs.Contents.{line_ok, ranges_ok, due_ok, written_ok, core_ok}
use Rattle.calls.specs.Reset.{blank_sheet, no_cells, Kept, reset_state, reset_stores, reset, fresh, byte3, sense_bytes}
use Rattle.calls.specs.Effects.{refused, done, moved_sheet, move_of, stands, at_once, do_move, written_sheet, written, write_causes, do_write, load_check, at_line1, slot_loaded, slot_selected, loaded, load_causes, do_load, completing, do_control, do_command}
use Rattle.calls.specs.Calls.{Call, command, compose, release, tally, check_of, movement, refusal_of, copy_at, do_compose, page_counted, emptied, released as released_core, do_release, tallying, do_tally, perform, effect, step}
use Rattle.calls.specs.Start.{asked, new_way, old_way, skip_ok, start_refusal, start_world, no_state, no_printer, start_outcome}
use Rattle.calls.specs.Lists.{Deed, commanded, was_released, was_tallied, world_after, counts, read_of, deed_of, finishes_reset, copies_of_page, given, since_now, note, since_over, since_reset}
use Rattle.calls.specs.Ways.{with_way}

-- A printer started over stores full of other bytes, with these pitches on the 3½ inch form; R1 to R12 have all four pitches 10.
abbrev old : Stores
old = record { page = replicate page_size 5; legends = replicate legend_size 6; tables = replicate table_size 7 }

abbrev begun : List ℕ → ℕ → World
begun ps skip = (start_outcome (asked 84 ps skip) old).world

abbrev tens : List ℕ
tens = replicate 4 10

-- A row: calls from Start on, every answer to them, the last one's buffer, and all that they leave. What is seen of the calls is to be the row itself.
pub record Row : Type 0 where
  pub calls : List Call
  pub answers : List Answer
  pub buffer : List ℕ
  pub world : World

unfoldable pub ran : Row → List Call → Row
ran r [] = r
ran r (c ∷ cs) =
    let o = step r.world c in
    ran (record { calls = r.calls ++ (c ∷ []); answers = r.answers ++ (o.answer ∷ []); buffer = o.buffer; world = o.world }) cs

unfoldable pub see : Row → Row
unfolding ran stored cells_in marks_ok flatten zip_with when first_or every padded cause_of row_of is_accepted checked form_lengths pitches_listed pitches_ok form_ok units_of runs_from runs units_total lines_where printable edges fcb_check layout_check layout_of channel_at start_fcb forms_of forms_in_range entered round up_to_first spaced skipped moved is_there still to_top slot_at put_slot is_loaded serving unprintable stand_in code_of translated unprintable_at line_codes merge_rules merge_cell collides merge_line any_collides cells_after line_at put_line page_written no_causes text_causes line_causes or_unmatched cause_byte start_table start_tables start_slots slots_in_range table_check pairs_of copies_of sequence_check mark_in number_check with_sequence with_reference start_copies copy_count copy_number copy_mark copies_in_range segment_of bad_head cut segments legend_check stored_legends unprintable_in_texts stored_segments legends_ok no_legends covers shown copy_from composed sizes_ok lines_now started codes look_up decode control_traits traits_of line_ok ranges_ok due_ok written_ok core_ok blank_sheet no_cells reset_state reset_stores reset fresh byte3 sense_bytes refused done moved_sheet move_of stands at_once do_move written_sheet written write_causes do_write load_check at_line1 slot_loaded slot_selected loaded load_causes do_load completing do_control do_command check_of movement refusal_of copy_at do_compose page_counted emptied released_core do_release tallying do_tally counted tallied transferred fused stacked cancelled restarted none_between counters_ok perform effect step skip_ok start_refusal start_world no_state no_printer start_outcome world_after counts read_of deed_of finishes_reset since_now note since_over since_reset copies_of_page given
see r = ran (record { calls = []; answers = []; buffer = []; world = let f = r.world.core.state.fixed in begun f.pitches (bit f.old old_way) }) r.calls

-- Calls: a command alone, one with a record, Sense into a buffer of a byte too many, Compose into an output of just the form's 15 lines.
abbrev cmd : ℕ → Call
cmd b = command (issued b [] [])

abbrev with : ℕ → List ℕ → Call
with b r = command (issued b r [])

abbrev sense_io : Call
sense_io = command (issued 0x04 [] (replicate (sense_size + 1) 9))

abbrev copy_size : ℕ
copy_size = line_bytes * 15

abbrev copy : ℕ → Call
copy n = compose n (zeros copy_size)

-- Answers: refusal, status, page ready, lines moved; Compose's copy number and mark; most often, 0C alone, or a page completed; a Release's. And one
-- that also tells the first unprintable position and how many there are.
abbrev says : Refusal → ℕ → Bool → ℕ → Answer
says x s r n = record { refusal = x; status = s; ready = r; lines = n; copy = 0; mark = 0; first = 0; count = 0 }

abbrev copied : ℕ → ℕ → Answer
copied n m = record { refusal = Accepted; status = 0; ready = false; lines = 0; copy = n; mark = m; first = 0; count = 0 }

abbrev fine : Answer
fine = says Accepted 0x0C false 0

abbrev completes : ℕ → Answer
completes n = says Accepted 0x0C true n

abbrev freed : Answer
freed = says Accepted 0 false 0

abbrev telling : ℕ → ℕ → Answer → Answer
telling f n a = record { refusal = a.refusal; status = a.status; ready = a.ready; lines = a.lines; copy = a.copy; mark = a.mark; first = f; count = n }

abbrev checks : Answer
checks = says Accepted 0x0E false 0

-- Bytes with 00 after them, n in all.
abbrev filled : ℕ → List ℕ → List ℕ
filled n l = l ++ zeros (n - length l)

-- Parts of a state: forms control, slot 0 loaded and one selected, an overlay sequence of one pair and the copy number, the sheet.
abbrev fcb : List ℕ → Forms
fcb l = record { fcb = filled fcb_size l; count = length l }

abbrev slot : ℕ → Slots
slot n = record { loaded = true ∷ false ∷ false ∷ false ∷ []; selected = n }

abbrev pair : ℕ → ℕ → ℕ → Copies
pair n m r = record { pairs = filled pair_size (n ∷ m ∷ []); count = 2; reference = r }

abbrev sheet : ℕ → Bool → Bool → Bool → Sheet
sheet l x w d = record { line = l; written = x; waiting = w; due = d }

abbrev at : ℕ → Sheet
at l = sheet l false false false

abbrev writing : Sheet
writing = sheet 1 true false false

abbrev waiting : ℕ → Sheet
waiting l = sheet l false true false

-- What Start leaves, written out; and with another sheet.
abbrev pitched : List ℕ → Sheet → State
pitched ps x = record { fixed = record { length = 84; pitches = ps; old = false }; blocked = false; forms = fcb (zeros 3 ++ 1 ∷ zeros 17); slots = slot 0; copies = pair 1 0 1; sheet = x; counters = counters 0 0 0 0 }

abbrev on : Sheet → State
on x = pitched tens x

-- With so many pages counted by channel, transfer, fuser and stacker; and with one released.
abbrev passed : ℕ → ℕ → ℕ → ℕ → State → State
passed c t f s x = with_counters x (counters c t f s)

abbrev out : State → State
out x = passed 1 0 0 0 x

abbrev table0 : List ℕ
table0 = replicate 64 0xFF ++ from 0 64 ++ from 0 64 ++ from 0 64

abbrev stores : List ℕ → List ℕ → List ℕ → Stores
stores p l t = record { page = filled page_size p; legends = filled legend_size l; tables = filled table_size t }

-- Document 01's cells: codes with the mark 0.
abbrev plain : List ℕ → List ℕ
plain cs = stored (map unruled cs)

-- A page by its first codes, with no legends; and with a legend. A page by its first cells.
abbrev page : List ℕ → Stores
page p = stores (plain p) [] table0

abbrev legend : List ℕ → List ℕ → Stores
legend l p = stores (plain p) l table0

abbrev marked : List Cell → Stores
marked cs = stores (stored cs) [] table0

abbrev row : List Call → List Answer → List ℕ → Sense → State → Stores → Row
row calls answers buffer sense s m = record { calls = calls; answers = answers; buffer = buffer; world = record { core = record { state = s; stores = m }; sense = sense } }

-- A row whose calls before the last all get 0C.
abbrev after : List Call → Call → Answer → Sense → State → Stores → Row
after cs c a = row (cs ++ (c ∷ [])) (replicate (length cs) fine ++ (a ∷ [])) []

-- T-05: a row in the old way.
abbrev in_old_way : Row → Row
in_old_way r = row r.calls r.answers r.buffer r.world.sense (with_way r.world.core.state true) r.world.core.stores

-- The codes of a line of C2 with 01 in its last cell.
abbrev legended : List ℕ
legended = 2 ∷ zeros (line_width - 2) ++ (1 ∷ [])

-- Legends on copy 2 of two copies, and a line of C2 on a page that Clear completes.
abbrev r12 : ℕ → List ℕ → Row
r12 n out =
    row (with 0x43 (2 ∷ 0 ∷ []) ∷ with 0x35 (2 ∷ 1 ∷ 1 ∷ 1 ∷ 0xCC ∷ 1 ∷ 0xC1 ∷ []) ∷ with 0x01 (0xC2 ∷ []) ∷ cmd 0x87 ∷ copy n ∷ [])
    (fine ∷ fine ∷ fine ∷ completes 0 ∷ copied n 0 ∷ []) (filled copy_size (plain out)) no_sense (with_copies (on (waiting 1)) (pair 2 0 1))
    (legend (2 ∷ 1 ∷ 1 ∷ 1 ∷ 0xCC ∷ 1 ∷ 1 ∷ []) (2 ∷ []))

-- R1 to R12.
unfoldable pub rows : List Row
rows =
    -- R1
    after [] (with 0x01 (0xC1 ∷ [])) fine no_sense (on writing) (page (1 ∷ []))
    -- R2
    ∷ after (with 0x01 (0xC1 ∷ []) ∷ []) (with 0x01 (0xC2 ∷ [])) checks (sense3 0x08 0x08 0) (on writing) (page (1 ∷ []))
    ∷ after (cmd 0x73 ∷ with 0x01 (0xC1 ∷ []) ∷ []) (with 0x01 (0xC2 ∷ [])) fine no_sense (with_blocked (on writing) true) (page (1 ∷ []))
    -- R3
    ∷ after (with 0x01 (0xC1 ∷ []) ∷ []) (with 0x01 (0x6D ∷ [])) fine no_sense (on writing) (marked (ruled 1 ∷ []))
    -- R4
    ∷ after [] (with 0x01 (0x3F ∷ [])) (telling 1 1 checks) (sense3 0x08 0x80 0) (on writing) (page [])
    -- R5
    ∷ row (replicate 14 (cmd 0x0B)) (replicate 14 (says Accepted 0x0C false 1)) [] no_sense (on (at 15)) (page [])
    ∷ row (replicate 13 (cmd 0x0B) ++ (cmd 0x1B ∷ [])) (replicate 13 (says Accepted 0x0C false 1) ++ (completes 2 ∷ [])) [] no_sense (on (waiting 1)) (page [])
    -- R6
    ∷ in_old_way (after [] (cmd 0x8B) (completes 15) no_sense (on (waiting 1)) (page []))
    -- R7
    ∷ after [] (cmd 0x93) (says Accepted 0x0E true 15) (sense3 0x08 0x10 0) (on (waiting 1)) (page [])
    -- R8
    ∷ after (cmd 0x57 ∷ []) (with 0x01 (0xC1 ∷ [])) checks (sense3 0x08 0x20 0) (with_slots (on writing) (slot 1)) (page (1 ∷ []))
    -- R9
    ∷ after [] (with 0x63 (zeros 20)) (says (LoadCheck FcbSpacing) 0x0E false 0) (sense3 0x02 0x40 0) (on (at 1)) (page [])
    ∷ after [] (with 0x63 (zeros 18)) (says (LoadCheck FcbSum) 0x0E false 0) (record { b0 = 0x02; b1 = 0x08; b2 = 0; b22 = 0; b23 = 0x12 }) (on (at 1)) (page [])
    ∷ after [] (with 0x63 (zeros 21)) fine no_sense (with_forms (on (at 1)) (fcb (zeros 21))) (page [])
    -- R10
    ∷ after [] (with 0x35 (1 ∷ 1 ∷ 1 ∷ 1 ∷ 0xCC ∷ 1 ∷ 0xC1 ∷ [])) fine no_sense (on (at 1)) (legend (1 ∷ 1 ∷ 1 ∷ 1 ∷ 0xCC ∷ 1 ∷ 1 ∷ []) [])
    ∷ after [] (with 0x35 (1 ∷ 1 ∷ 1 ∷ 1 ∷ 0xCD ∷ 1 ∷ 0xC1 ∷ [])) (says (LoadCheck SegmentFields) 0x0E false 0) (sense3 0x02 0 0x20) (on (at 1)) (page [])
    -- R11
    ∷ after [] (with 0x43 (2 ∷ 0 ∷ [])) fine no_sense (with_copies (on (at 1)) (pair 2 0 1)) (page [])
    ∷ after [] (with 0x43 (0 ∷ 0 ∷ [])) (says (LoadCheck SequenceCounts) 0x0E false 0) (sense3 0x02 0 0x10) (on (at 1)) (page [])
    -- R12
    ∷ r12 1 (2 ∷ [])
    ∷ r12 2 legended
    ∷ []

-- Two copies from number 5 on, with mark 1; a legend on number 6; a line of C2. And what is left of them, with a page that waits.
abbrev from_five : List Call
from_five = with 0x43 (2 ∷ 1 ∷ []) ∷ with 0x23 (5 ∷ []) ∷ with 0x35 (6 ∷ 1 ∷ 1 ∷ 1 ∷ 0xCC ∷ 1 ∷ 0xC1 ∷ []) ∷ with 0x01 (0xC2 ∷ []) ∷ []

abbrev composing : Call → Bool → ℕ → ℕ → List ℕ → Row
composing c due n number out =
    row (from_five ++ (c ∷ copy n ∷ [])) (replicate 4 fine ++ (completes 0 ∷ copied number 1 ∷ [])) (filled copy_size (plain out)) no_sense
    (with_copies (on (sheet 1 false true due)) (pair 2 1 5)) (legend (6 ∷ 1 ∷ 1 ∷ 1 ∷ 0xCC ∷ 1 ∷ 1 ∷ []) (2 ∷ []))

-- Channels 9 and 12 on lines 2 and 3; channel 5 on line 5.
abbrev channels : List ℕ
channels = zeros 3 ++ 1 ∷ 9 ∷ 0x0C ∷ zeros 15

abbrev channel5 : List ℕ
channel5 = zeros 3 ++ 1 ∷ zeros 3 ++ 5 ∷ zeros 13

-- Calls on the form with channel 5, all but the last with these answers.
abbrev five_then : List Answer → List Call → Answer → Sheet → Stores → Row
five_then answers cs a x m = row (with 0x63 channel5 ∷ cs) (fine ∷ answers ++ (a ∷ [])) [] no_sense (with_forms (on x) (fcb channel5)) m

-- Sense after these calls: their answers, byte 3 of the reply, and what is left.
abbrev sensing : List Call → List Answer → ℕ → State → Row
sensing cs answers byte3 s = row (cs ++ (sense_io ∷ [])) (answers ++ (fine ∷ [])) (0 ∷ 0 ∷ 0 ∷ byte3 ∷ zeros (sense_size - 4) ++ (9 ∷ [])) no_sense s (page [])

-- A table for pitches 10 0 0 10: the code for 40 is of module 3, that for C1 of module 1, which is not fitted, all others 00.
abbrev some_table : List ℕ
some_table = zeros 64 ++ 0xC5 ∷ zeros 128 ++ (0x41 ∷ [])

-- A table whose code for 40 is FF, all others 00.
abbrev blankless : List ℕ
blankless = zeros 64 ++ (0xFF ∷ [])

-- Three segments: their text is A B; A and a byte that is unprintable; two such. And as they are stored.
abbrev three_texts : List ℕ
three_texts = 1 ∷ 1 ∷ 1 ∷ 1 ∷ 1 ∷ 2 ∷ 0xC1 ∷ 0xC2 ∷ 1 ∷ 1 ∷ 2 ∷ 1 ∷ 1 ∷ 2 ∷ 0xC1 ∷ 0x3F ∷ 1 ∷ 1 ∷ 3 ∷ 1 ∷ 1 ∷ 2 ∷ 0x3F ∷ 0x00 ∷ []

abbrev three_stored : List ℕ
three_stored = 1 ∷ 1 ∷ 1 ∷ 1 ∷ 1 ∷ 2 ∷ 1 ∷ 2 ∷ 1 ∷ 1 ∷ 2 ∷ 1 ∷ 1 ∷ 2 ∷ 1 ∷ 0 ∷ 1 ∷ 1 ∷ 3 ∷ 1 ∷ 1 ∷ 2 ∷ 0 ∷ 0 ∷ []

-- A page written, completed and released, with the answers; a report where no page is between.
abbrev one_page : List Call
one_page = with 0x01 (0xC1 ∷ []) ∷ cmd 0x87 ∷ release ∷ []

abbrev released : List Answer
released = fine ∷ completes 0 ∷ freed ∷ []

abbrev none : Answer
none = says NoneBetween 0 false 0

-- Rows of our own, for rules that R1 to R12 leave unseen.
unfoldable pub ours : List Row
ours =
    -- Start alone.
    row [] [] [] no_sense (on (at 1)) (page [])
    -- A segment covers by copy number, not by copy index.
    ∷ composing (cmd 0x87) false 1 5 (2 ∷ [])
    ∷ composing (cmd 0x87) false 2 6 legended
    -- Initialize leaves the legends of the page that it has just completed; after its Release they are gone, with sequence and number.
    ∷ composing (cmd 0x37) true 2 6 legended
    ∷ row (from_five ++ (cmd 0x37 ∷ release ∷ with 0x01 (0xC3 ∷ []) ∷ cmd 0x87 ∷ copy 1 ∷ [])) (replicate 4 fine ++ (completes 0 ∷ freed ∷ fine ∷ completes 0 ∷ copied 1 0 ∷ []))
    (filled copy_size (plain (3 ∷ []))) no_sense (out (on (waiting 1))) (page (3 ∷ []))
    -- A reset forgets the selection, and keeps the check switch; so does the reset that a Release does.
    ∷ after (cmd 0x57 ∷ cmd 0x37 ∷ []) (with 0x01 (0xC1 ∷ [])) fine no_sense (on writing) (page (1 ∷ []))
    ∷ after (cmd 0x73 ∷ cmd 0x37 ∷ []) (with 0x01 (0x3F ∷ [])) (telling 1 1 fine) no_sense (with_blocked (on writing) true) (page [])
    ∷ row (cmd 0x73 ∷ with 0x01 (0xC1 ∷ []) ∷ cmd 0x37 ∷ release ∷ with 0x01 (0x3F ∷ []) ∷ []) (fine ∷ fine ∷ completes 0 ∷ freed ∷ telling 1 1 fine ∷ []) [] no_sense
    (out (with_blocked (on writing) true)) (page [])
    -- Release keeps the line to which a skip has led.
    ∷ row (with 0x63 channel5 ∷ cmd 0x13 ∷ cmd 0x1B ∷ cmd 0xAB ∷ release ∷ []) (fine ∷ says Accepted 0x0C false 2 ∷ says Accepted 0x0C false 3 ∷ completes 14 ∷ freed ∷ []) [] no_sense
    (out (with_forms (on (at 5)) (fcb channel5))) (page [])
    -- Copy numbers and segments run up to 509, unreduced, with the mark of the copy's pair.
    ∷ row (with 0x43 (0xFE ∷ 0 ∷ 1 ∷ 1 ∷ []) ∷ with 0x23 (0xFF ∷ []) ∷ with 0x35 (0xFF ∷ 0xFF ∷ 1 ∷ 1 ∷ 1 ∷ 1 ∷ 0xC1 ∷ []) ∷ with 0x01 (0xC2 ∷ []) ∷ cmd 0x87 ∷ copy 255 ∷ [])
    (replicate 4 fine ++ (completes 0 ∷ copied 509 1 ∷ [])) (filled copy_size (plain (1 ∷ []))) no_sense
    (with_copies (on (waiting 1)) (record { pairs = filled pair_size (0xFE ∷ 0 ∷ 1 ∷ 1 ∷ []); count = 4; reference = 0xFF })) (legend (0xFF ∷ 0xFF ∷ 1 ∷ 1 ∷ 1 ∷ 1 ∷ 1 ∷ []) (2 ∷ []))
    -- The last segment that covers a cell wins, with a blank too.
    ∷ row (with 0x35 (1 ∷ 1 ∷ 1 ∷ 1 ∷ 1 ∷ 2 ∷ 0xC1 ∷ 0xC2 ∷ 1 ∷ 1 ∷ 1 ∷ 1 ∷ 2 ∷ 1 ∷ 0x40 ∷ []) ∷ with 0x01 (0xC3 ∷ 0xC3 ∷ []) ∷ cmd 0x87 ∷ copy 1 ∷ []) (fine ∷ fine ∷ completes 0 ∷ copied 1 0 ∷ [])
    (filled copy_size (plain (1 ∷ []))) no_sense (on (waiting 1)) (legend (1 ∷ 1 ∷ 1 ∷ 1 ∷ 1 ∷ 2 ∷ 1 ∷ 2 ∷ 1 ∷ 1 ∷ 1 ∷ 1 ∷ 2 ∷ 1 ∷ 0 ∷ []) (3 ∷ 3 ∷ []))
    -- The page after a Release begins empty and is a page of its own.
    ∷ row (with 0x09 (0xC1 ∷ []) ∷ with 0x09 (0xC1 ∷ []) ∷ cmd 0x87 ∷ release ∷ with 0x01 (0xC2 ∷ []) ∷ cmd 0x87 ∷ copy 1 ∷ [])
    (says Accepted 0x0C false 1 ∷ says Accepted 0x0C false 1 ∷ completes 0 ∷ freed ∷ fine ∷ completes 0 ∷ copied 1 0 ∷ []) (filled copy_size (plain (2 ∷ []))) no_sense (out (on (waiting 1))) (page (2 ∷ []))
    -- A line that is left is no longer marked as written.
    ∷ after [] (with 0x09 (0xC1 ∷ [])) (says Accepted 0x0C false 1) no_sense (on (at 2)) (page (1 ∷ []))
    -- A load on a started page is refused and has not moved the form.
    ∷ row (cmd 0x0B ∷ with 0x63 (zeros 21) ∷ []) (says Accepted 0x0C false 1 ∷ says PageStarted 0x0E false 0 ∷ []) [] (sense3 0x02 0 0) (on (at 2)) (page [])
    -- Page waiting comes before a record that is too long, and keeps the sense.
    ∷ row (cmd 0x93 ∷ with 0x01 (zeros (line_width + 1)) ∷ []) (says Accepted 0x0E true 15 ∷ says PageWaiting 0x10 false 0 ∷ []) [] (sense3 0x08 0x10 0) (on (waiting 1)) (page [])
    -- Causes of a write and of its skip are joined; Block hides 80 and 08 alone.
    ∷ row (cmd 0x57 ∷ with 0x01 (0xC1 ∷ []) ∷ with 0x91 (0xC2 ∷ 0x3F ∷ []) ∷ []) (fine ∷ checks ∷ telling 2 1 (says Accepted 0x0E true 15) ∷ []) [] (sense3 0x08 0xB8 0)
    (with_slots (on (waiting 1)) (slot 1)) (page (1 ∷ []))
    ∷ row (cmd 0x73 ∷ cmd 0x57 ∷ with 0x01 (0xC1 ∷ []) ∷ with 0x91 (0xC2 ∷ 0x3F ∷ []) ∷ []) (fine ∷ fine ∷ checks ∷ telling 2 1 (says Accepted 0x0E true 15) ∷ []) [] (sense3 0x08 0x30 0)
    (with_blocked (with_slots (on (waiting 1)) (slot 1)) true) (page (1 ∷ []))
    -- Channels 9 and 12 are reported on lines that a space enters, and not by a skip.
    ∷ after (with 0x63 channels ∷ []) (cmd 0x13) (says Accepted 0x0F false 2) (sense3 0x01 0 0) (with_forms (on (at 3)) (fcb channels)) (page [])
    ∷ after (with 0x63 channels ∷ []) (cmd 0xCB) (says Accepted 0x0C false 1) no_sense (with_forms (on (at 2)) (fcb channels)) (page [])
    -- A code of a module not fitted gets the table's code for 40, and so does the fill.
    ∷ after (with 0x83 (filled slot_size some_table) ∷ []) (with 0x01 (0xC1 ∷ 0xC2 ∷ [])) (telling 1 1 checks) (sense3 0x08 0x80 0) (pitched (10 ∷ 0 ∷ 0 ∷ 10 ∷ []) writing)
    (stores (plain (0xC5 ∷ 0 ∷ replicate (line_width - 2) 0xC5)) [] some_table)
    -- Sense replies 24 bytes, then clears; the byte after them keeps its value.
    ∷ row (with 0x63 (zeros 18) ∷ sense_io ∷ []) (says (LoadCheck FcbSum) 0x0E false 0 ∷ fine ∷ []) (0x02 ∷ 0x08 ∷ 0 ∷ 0xC0 ∷ zeros 18 ++ (0 ∷ 0x12 ∷ 9 ∷ [])) no_sense (on (at 1)) (page [])
    -- Byte 3 is 80, plus 40 when no page is started or waiting, plus 20 when Block is on.
    ∷ sensing [] [] 0xC0 (on (at 1))
    ∷ sensing (cmd 0x0B ∷ []) (says Accepted 0x0C false 1 ∷ []) 0x80 (on (at 2))
    ∷ sensing (cmd 0x0B ∷ cmd 0x87 ∷ []) (says Accepted 0x0C false 1 ∷ completes 0 ∷ []) 0x80 (on (waiting 1))
    ∷ sensing (cmd 0x73 ∷ []) (fine ∷ []) 0xE0 (with_blocked (on (at 1)) true)
    ∷ []

-- Rows for the requests of document 02 that have landed.
unfoldable pub requests : List Row
requests =
    -- T-01: the first unprintable position and how many, Block or no Block; the fill, which the table makes FF, does not count; table 0 decides for an
    -- unloaded one.
    after [] (with 0x01 (0xC1 ∷ 0x3F ∷ 0xC2 ∷ 0x00 ∷ [])) (telling 2 2 checks) (sense3 0x08 0x80 0) (on writing) (page (1 ∷ 0 ∷ 2 ∷ []))
    ∷ after (cmd 0x73 ∷ []) (with 0x01 (0xC1 ∷ 0x3F ∷ 0xC2 ∷ 0x00 ∷ [])) (telling 2 2 fine) no_sense (with_blocked (on writing) true) (page (1 ∷ 0 ∷ 2 ∷ []))
    ∷ after (with 0x83 (filled slot_size blankless) ∷ []) (with 0x01 (0xC1 ∷ [])) fine no_sense (on writing) (stores [] [] blankless)
    ∷ after (cmd 0x57 ∷ []) (with 0x01 (0xC1 ∷ 0x3F ∷ [])) (telling 2 1 checks) (sense3 0x08 0xA0 0) (with_slots (on writing) (slot 1)) (page (1 ∷ []))
    -- The place in the text of the first segment that has one, and the number over all, Block or no Block, by table 0 for an unloaded one; a refused load
    -- tells neither.
    ∷ after [] (with 0x35 three_texts) (telling 2 3 checks) (sense3 0x08 0x80 0) (on (at 1)) (legend three_stored [])
    ∷ after (cmd 0x73 ∷ []) (with 0x35 three_texts) (telling 2 3 fine) no_sense (with_blocked (on (at 1)) true) (legend three_stored [])
    ∷ after (cmd 0x57 ∷ []) (with 0x35 three_texts) (telling 2 3 checks) (sense3 0x08 0xA0 0) (with_slots (on (at 1)) (slot 1)) (legend three_stored [])
    ∷ after [] (with 0x35 (three_texts ++ (1 ∷ []))) (says (LoadCheck SegmentEnds) 0x0E false 0) (sense3 0x02 0x80 0) (on (at 1)) (page [])
    -- T-02: a page passes the three stations; none passes where there is none, and the sense is kept.
    ∷ row (one_page ++ (tally Transferred ∷ tally Fused ∷ tally Stacked ∷ [])) (released ++ (freed ∷ freed ∷ freed ∷ [])) [] no_sense (passed 1 1 1 1 (on (at 1))) (page [])
    ∷ row (cmd 0xFF ∷ tally Transferred ∷ tally Fused ∷ tally Stacked ∷ []) (says NotListed 0x0E false 0 ∷ none ∷ none ∷ none ∷ []) [] (sense3 0x80 0x80 0) (on (at 1)) (page [])
    ∷ row (one_page ++ (tally Fused ∷ tally Transferred ∷ tally Transferred ∷ tally Stacked ∷ [])) (released ++ (none ∷ freed ∷ none ∷ none ∷ [])) [] no_sense (passed 1 1 0 0 (on (at 1))) (page [])
    -- A cancel gives up what has not passed transfer, a restart what is not stacked; either on a page that waits, which stays.
    ∷ row (one_page ++ one_page ++ (tally Transferred ∷ tally Cancel ∷ tally Cancel ∷ [])) (released ++ released ++ (freed ∷ freed ∷ freed ∷ [])) [] no_sense (passed 1 1 0 0 (on (at 1))) (page [])
    ∷ row (one_page ++ one_page ++ (tally Transferred ∷ tally Fused ∷ tally Transferred ∷ with 0x01 (0xC2 ∷ []) ∷ cmd 0x87 ∷ tally Restart ∷ []))
    (released ++ released ++ (freed ∷ freed ∷ freed ∷ fine ∷ completes 0 ∷ freed ∷ [])) [] no_sense (on (waiting 1)) (page (2 ∷ []))
    -- The counters live through both resets.
    ∷ row (one_page ++ (tally Transferred ∷ with 0x37 [] ∷ with 0x01 (0xC2 ∷ []) ∷ cmd 0x37 ∷ release ∷ [])) (released ++ (freed ∷ fine ∷ fine ∷ completes 0 ∷ freed ∷ [])) [] no_sense
    (passed 2 1 0 0 (on (at 1))) (page [])
    -- T-03: underscore then character, blank then code, code then blank, two underscores, blank with underscore either way round: the first alone sets a mark.
    ∷ after (with 0x01 (0x6D ∷ 0x40 ∷ 0xC1 ∷ 0x6D ∷ 0x40 ∷ 0x6D ∷ []) ∷ []) (with 0x01 (0xC1 ∷ 0xC2 ∷ 0x40 ∷ 0x6D ∷ 0x6D ∷ 0x40 ∷ [])) fine no_sense (on writing)
    (marked (ruled 1 ∷ unruled 2 ∷ unruled 1 ∷ unruled 0x2D ∷ unruled 0x2D ∷ unruled 0x2D ∷ []))
    -- A third write keeps the marks: a blank, an underscore, the same character, another one, and the fill.
    ∷ after (with 0x01 (replicate 5 0xC1) ∷ with 0x01 (replicate 5 0x6D) ∷ []) (with 0x01 (0x40 ∷ 0x6D ∷ 0xC1 ∷ 0xC2 ∷ [])) checks (sense3 0x08 0x08 0) (on writing)
    (marked (replicate 5 (ruled 1)))
    -- A copy shows the page's marks; a legend's cell has none, with the page's own code too.
    ∷ row (with 0x35 (1 ∷ 1 ∷ 1 ∷ 1 ∷ 1 ∷ 2 ∷ 0xC1 ∷ 0xC2 ∷ []) ∷ with 0x01 (replicate 3 0xC1) ∷ with 0x01 (replicate 3 0x6D) ∷ cmd 0x87 ∷ copy 1 ∷ [])
    (replicate 3 fine ++ (completes 0 ∷ copied 1 0 ∷ [])) (filled copy_size (stored (unruled 1 ∷ unruled 2 ∷ ruled 1 ∷ []))) no_sense (on (waiting 1))
    (stores (stored (replicate 3 (ruled 1))) (1 ∷ 1 ∷ 1 ∷ 1 ∷ 1 ∷ 2 ∷ 1 ∷ 2 ∷ []) table0)
    -- A released page takes its marks with it.
    ∷ row (with 0x01 (0xC1 ∷ []) ∷ with 0x01 (0x6D ∷ []) ∷ cmd 0x87 ∷ release ∷ with 0x01 (0xC1 ∷ []) ∷ with 0x01 (0xC1 ∷ []) ∷ [])
    (fine ∷ fine ∷ completes 0 ∷ freed ∷ fine ∷ fine ∷ []) [] no_sense (out (on writing)) (page (1 ∷ []))
    ∷ []

-- Rows for T-05: an immediate skip on a line of its own channel. They are of the new way where none is named.
unfoldable pub skips : List Row
skips =
    -- At line 1 of a fresh form it stands, and sets the sense anew; as often as it is sent.
    after [] (cmd 0x8B) fine no_sense (on (at 1)) (page [])
    ∷ row (cmd 0xFF ∷ cmd 0x8B ∷ cmd 0x8B ∷ []) (says NotListed 0x0E false 0 ∷ fine ∷ fine ∷ []) [] no_sense (on (at 1)) (page [])
    -- After a space to a line of that channel it stands, though another line is written; in the old way it goes round.
    ∷ five_then (says Accepted 0x0C false 1 ∷ says Accepted 0x0C false 3 ∷ []) (with 0x09 (0xC1 ∷ []) ∷ cmd 0x1B ∷ cmd 0xAB ∷ []) fine (at 5) (page (1 ∷ []))
    ∷ in_old_way (five_then (says Accepted 0x0C false 1 ∷ says Accepted 0x0C false 3 ∷ []) (with 0x09 (0xC1 ∷ []) ∷ cmd 0x1B ∷ cmd 0xAB ∷ []) (completes 15) (waiting 5) (page (1 ∷ [])))
    -- After a skip that landed there it stands.
    ∷ five_then (says Accepted 0x0C false 4 ∷ []) (cmd 0xAB ∷ cmd 0xAB ∷ []) fine (at 5) (page [])
    ∷ in_old_way (five_then (says Accepted 0x0C false 4 ∷ []) (cmd 0xAB ∷ cmd 0xAB ∷ []) (completes 15) (waiting 5) (page []))
    -- On a written line it moves, with a command that does not move between the two as well.
    ∷ after (with 0x01 (0xC1 ∷ []) ∷ []) (cmd 0x8B) (completes 15) no_sense (on (waiting 1)) (page (1 ∷ []))
    ∷ after (with 0x01 (0xC1 ∷ []) ∷ cmd 0x47 ∷ []) (cmd 0x8B) (completes 15) no_sense (on (waiting 1)) (page (1 ∷ []))
    -- With another channel on the line, or none, it moves.
    ∷ five_then [] (cmd 0xAB ∷ []) (says Accepted 0x0C false 4) (at 5) (page [])
    ∷ row (cmd 0x0B ∷ cmd 0x8B ∷ []) (says Accepted 0x0C false 1 ∷ completes 14 ∷ []) [] no_sense (on (waiting 1)) (page [])
    -- A write and skip at its own channel moves.
    ∷ after [] (with 0x89 (0xC1 ∷ [])) (completes 15) no_sense (on (waiting 1)) (page (1 ∷ []))
    -- A page that waits comes first. On the next form, where a skip has landed, it stands after the Release.
    ∷ row (with 0x63 channel5 ∷ cmd 0xAB ∷ cmd 0x0B ∷ cmd 0xAB ∷ cmd 0xAB ∷ release ∷ cmd 0xAB ∷ [])
    (fine ∷ says Accepted 0x0C false 4 ∷ says Accepted 0x0C false 1 ∷ completes 14 ∷ says PageWaiting 0x10 false 0 ∷ freed ∷ fine ∷ []) [] no_sense
    (out (with_forms (on (at 5)) (fcb channel5))) (page [])
    -- Either way lives through both resets.
    ∷ row (with 0x37 [] ∷ cmd 0x8B ∷ []) (fine ∷ fine ∷ []) [] no_sense (on (at 1)) (page [])
    ∷ in_old_way (row (with 0x01 (0xC1 ∷ []) ∷ cmd 0x37 ∷ release ∷ with 0x37 [] ∷ cmd 0x8B ∷ []) (fine ∷ completes 0 ∷ freed ∷ fine ∷ completes 15 ∷ []) [] no_sense (out (on (waiting 1))) (page []))
    ∷ []

-- A refused Start: all zeros, and the stores as they were.
abbrev zero_state : State
zero_state = record { fixed = record { length = 0; pitches = zeros 4; old = false }; blocked = false; forms = fcb []; slots = record { loaded = replicate 4 false; selected = 0 }; copies = record { pairs = zeros pair_size; count = 0; reference = 0 }; sheet = at 0; counters = counters 0 0 0 0 }

pub refused-start-table : (start_outcome (asked 85 tens new_way) old ∷ start_outcome (asked 84 tens 2) old ∷ [])
    ≡ replicate 2 (record { answer = says BadForm 0 false 0; buffer = []; world = record { core = record { state = zero_state; stores = old }; sense = sense3 0 0 0 } })
unfolding start_outcome start_refusal no_printer no_state sizes_ok skip_ok form_ok form_lengths pitches_ok pitches_listed every first_or when is_accepted row_of
refused-start-table = refl

-- What counts since the latest finished reset, of lists with refused calls, No-Op, Sense and Compose among them: since the Release that did a reset with
-- Block on; since Start, with a Release that did no reset, and reports, of which one is refused; since Initialize with Block on, with one page out; since
-- Start, with Initialize on a started page.
pub record Counted : Type 0 where
  pub calls : List Call
  pub kept : Kept
  pub deeds : List Deed

abbrev list : List Call → Bool → ℕ → List Deed → Counted
list calls switch pages deeds = record { calls = calls; kept = record { blocked = switch; counters = counters pages 0 0 0 }; deeds = deeds }

unfoldable pub lists : List Counted
lists =
    list (cmd 0x73 ∷ with 0x01 (0xC1 ∷ []) ∷ cmd 0xFF ∷ cmd 0x37 ∷ cmd 0x0B ∷ release ∷ release ∷ cmd 0x03 ∷ with 0x0B (1 ∷ []) ∷ with 0x63 (zeros 21) ∷ cmd 0x7B ∷ sense_io ∷ [])
    true 1 (commanded 0x0B [] ∷ commanded 0x7B [] ∷ [])
    ∷ list (with 0x43 (1 ∷ 1 ∷ []) ∷ with 0x01 (0xC1 ∷ []) ∷ cmd 0x87 ∷ copy 1 ∷ cmd 0x0B ∷ release ∷ tally Transferred ∷ tally Stacked ∷ tally Cancel ∷ tally Restart ∷ [])
    false 0
    (commanded 0x43 (1 ∷ 1 ∷ []) ∷ commanded 0x01 (0xC1 ∷ []) ∷ commanded 0x87 [] ∷ was_released ∷ was_tallied Transferred ∷ was_tallied Cancel ∷ was_tallied Restart ∷ [])
    ∷ list (cmd 0x0B ∷ cmd 0x87 ∷ release ∷ cmd 0x73 ∷ with 0x37 (1 ∷ []) ∷ command (issued 0x7B (2 ∷ []) (3 ∷ [])) ∷ with 0x57 (4 ∷ []) ∷ [])
    true 1 (commanded 0x7B [] ∷ commanded 0x57 [] ∷ [])
    ∷ list (with 0x01 (0xC1 ∷ []) ∷ cmd 0x37 ∷ []) false 0 (commanded 0x01 (0xC1 ∷ []) ∷ commanded 0x37 [] ∷ [])
    ∷ []

unfoldable pub seen : Counted → Counted
seen l = let s = since_reset (begun tens new_way) l.calls in record { calls = l.calls; kept = s.kept; deeds = s.deeds }

-- Lists of calls go from the first call to the last.
abbrev space_then_clear : World
space_then_clear = world_after (begun tens new_way) (cmd 0x0B ∷ cmd 0x87 ∷ [])

-- A table in parts, since a whole one takes too many steps: what holds of the first n rows and of those after them holds of all.
in_parts : (n : ℕ) (rs : List Row) → map see (take n rs) ≡ take n rs → map see (drop n rs) ≡ drop n rs → map see rs ≡ rs
in_parts n rs before behind =
    let whole = take-append-drop n rs in
    ap (map see) (sym whole) ∙ map-append see (take n rs) (drop n rs) ∙ (λ i. before i ++ behind i) ∙ whole

rows-table-part-1 : map see (take 10 rows) ≡ take 10 rows
unfolding see rows
rows-table-part-1 = refl

rows-table-part-2 : map see (drop 10 rows) ≡ drop 10 rows
unfolding see rows
rows-table-part-2 = refl

pub rows-table : map see rows ≡ rows
rows-table = in_parts 10 rows rows-table-part-1 rows-table-part-2

old-rows-table-part-1 : map see (take 10 (map in_old_way rows)) ≡ take 10 (map in_old_way rows)
unfolding see rows
old-rows-table-part-1 = refl

old-rows-table-part-2 : map see (drop 10 (map in_old_way rows)) ≡ drop 10 (map in_old_way rows)
unfolding see rows
old-rows-table-part-2 = refl

-- T-05: in the old way all of them hold, R6 too.
pub old-rows-table : map see (map in_old_way rows) ≡ map in_old_way rows
old-rows-table = in_parts 10 (map in_old_way rows) old-rows-table-part-1 old-rows-table-part-2

ours-table-part-1 : map see (take 9 ours) ≡ take 9 ours
unfolding see ours
ours-table-part-1 = refl

ours-table-part-2 : map see (take 8 (drop 9 ours)) ≡ take 8 (drop 9 ours)
unfolding see ours
ours-table-part-2 = refl

ours-table-part-3 : map see (drop 8 (drop 9 ours)) ≡ drop 8 (drop 9 ours)
unfolding see ours
ours-table-part-3 = refl

pub ours-table : map see ours ≡ ours
ours-table = in_parts 9 ours ours-table-part-1 (in_parts 8 (drop 9 ours) ours-table-part-2 ours-table-part-3)

requests-table-part-1 : map see (take 6 requests) ≡ take 6 requests
unfolding see requests
requests-table-part-1 = refl

requests-table-part-2 : map see (take 6 (drop 6 requests)) ≡ take 6 (drop 6 requests)
unfolding see requests
requests-table-part-2 = refl

requests-table-part-3 : map see (drop 6 (drop 6 requests)) ≡ drop 6 (drop 6 requests)
unfolding see requests
requests-table-part-3 = refl

pub requests-table : map see requests ≡ requests
requests-table = in_parts 6 requests requests-table-part-1 (in_parts 6 (drop 6 requests) requests-table-part-2 requests-table-part-3)

pub skips-table : map see skips ≡ skips
unfolding see skips
skips-table = refl

pub lists-table : (map seen lists ≡ lists) × (space_then_clear.core.state.sheet ≡ waiting 1)
unfolding see seen lists
lists-table = (refl, refl)
