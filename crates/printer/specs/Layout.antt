-- docs/STATE.md: where each field of the state stands in its bytes. A place is that of the field before it, and on by that one's width: so a new field
-- moves no other line.
use Rattle.std.specs.Prelude.{ℕ, ◌+◌}
use Rattle.form.specs.Form.{fcb_size}
use Rattle.copies.specs.Copies.{pair_size}

-- What Start fixes: the form length in two bytes, high byte first, a pitch for each of four modules, and the way of skipping (T-05).
abbrev pub length_at : ℕ
length_at = 0

abbrev pub pitches_at : ℕ
pitches_at = length_at + 2

abbrev pub skip_at : ℕ
skip_at = pitches_at + 4

-- The check switch.
abbrev pub blocked_at : ℕ
blocked_at = skip_at + 1

-- How many bytes the FCB has.
abbrev pub fcb_count_at : ℕ
fcb_count_at = blocked_at + 1

-- Whether each of four table slots is loaded, and which one is selected.
abbrev pub loaded_at : ℕ
loaded_at = fcb_count_at + 1

abbrev pub selected_at : ℕ
selected_at = loaded_at + 4

-- How many bytes the overlay sequence has, and the copy number of copy 1.
abbrev pub pair_count_at : ℕ
pair_count_at = selected_at + 1

abbrev pub reference_at : ℕ
reference_at = pair_count_at + 1

-- The sheet.
abbrev pub sheet_at : ℕ
sheet_at = reference_at + 1

abbrev pub written_at : ℕ
written_at = sheet_at + 1

abbrev pub waiting_at : ℕ
waiting_at = written_at + 1

abbrev pub due_at : ℕ
due_at = waiting_at + 1

-- The sense bytes that are kept: 0, 1, 2, 22 and 23.
abbrev pub sense0_at : ℕ
sense0_at = due_at + 1

-- The two arrays.
abbrev pub pairs_at : ℕ
pairs_at = sense0_at + 5

abbrev pub fcb_at : ℕ
fcb_at = pairs_at + pair_size

-- T-02: the page counters, two bytes each, high byte first.
abbrev pub channel_at : ℕ
channel_at = fcb_at + fcb_size

abbrev pub transfer_at : ℕ
transfer_at = channel_at + 2

abbrev pub fuser_at : ℕ
fuser_at = transfer_at + 2

abbrev pub stacker_at : ℕ
stacker_at = fuser_at + 2

abbrev pub state_size : ℕ
state_size = stacker_at + 2
