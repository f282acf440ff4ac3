-- docs/STATE.md: a printer's state as bytes, its fields in the order of the places that the printer's Layout gives them; and the printer that bytes stand
-- for.
use Rattle.std.specs.Prelude.{ℕ, ◌+◌, ◌*◌, ◌/◌, ◌%◌, ◌≤◌, ◌≡◌, Bool, true, false, List, [], ◌∷◌, ◌++◌, eqb, leb, length, take, drop, get_or}
use mir.Val.{bool_byte}
use Rattle.seq.specs.Words.{all, every}
use Rattle.numbers.specs.declared.Sense.{Sense}
use Rattle.form.specs.Form.{fcb_size}
use Rattle.copies.specs.Copies.{pair_size}
use Rattle.counters.specs.declared.Counters.{Counters}
use Rattle.counters.specs.Counters.{counters}
use Rattle.calls.specs.declared.Sheet.{Sheet}
use Rattle.calls.specs.declared.State.{State}
use Rattle.calls.specs.Core.{Stores, Core, World, with_sheet, with_counters}
use Rattle.printer.specs.declared.Printer.{Printer}
use Rattle.printer.specs.Layout.{length_at, pitches_at, skip_at, blocked_at, fcb_count_at, loaded_at, selected_at, pair_count_at, reference_at, sheet_at, written_at, waiting_at, due_at, sense0_at, pairs_at, fcb_at, channel_at, transfer_at, fuser_at, stacker_at, state_size}

-- Up to the sheet: all that most commands leave as it is. A flag is 1 or 0.
abbrev pub front_bytes : State → List ℕ
front_bytes s =
    s.fixed.length / 256
    ∷ s.fixed.length % 256
    ∷ get_or s.fixed.pitches 0 0
    ∷ get_or s.fixed.pitches 1 0
    ∷ get_or s.fixed.pitches 2 0
    ∷ get_or s.fixed.pitches 3 0
    ∷ bool_byte s.fixed.old
    ∷ bool_byte s.blocked
    ∷ s.forms.count
    ∷ bool_byte (get_or s.slots.loaded 0 false)
    ∷ bool_byte (get_or s.slots.loaded 1 false)
    ∷ bool_byte (get_or s.slots.loaded 2 false)
    ∷ bool_byte (get_or s.slots.loaded 3 false)
    ∷ s.slots.selected
    ∷ s.copies.count
    ∷ s.copies.reference
    ∷ []

-- The sheet and the sense.
abbrev pub sheet_bytes : Sheet → Sense → List ℕ
sheet_bytes x q =
    x.line
    ∷ bool_byte x.written
    ∷ bool_byte x.waiting
    ∷ bool_byte x.due
    ∷ q.b0
    ∷ q.b1
    ∷ q.b2
    ∷ q.b22
    ∷ q.b23
    ∷ []

-- Both: all but the two arrays and the counters.
abbrev pub small_bytes : State → Sense → List ℕ
small_bytes s q = front_bytes s ++ sheet_bytes s.sheet q

-- T-02: the counters, high byte first.
abbrev pub counter_bytes : Counters → List ℕ
counter_bytes c =
    c.channel / 256
    ∷ c.channel % 256
    ∷ c.transfer / 256
    ∷ c.transfer % 256
    ∷ c.fuser / 256
    ∷ c.fuser % 256
    ∷ c.stacker / 256
    ∷ c.stacker % 256
    ∷ []

-- And all: then the overlay sequence's pairs, the FCB's bytes and the counters.
unfoldable pub bytes_of : State → Sense → List ℕ
bytes_of s q = small_bytes s q ++ (s.copies.pairs ++ (s.forms.fcb ++ counter_bytes s.counters))

abbrev pub printer_bytes : Printer → List ℕ
printer_bytes p = bytes_of p.state p.sense

-- The other way: the state and the sense that bytes stand for.
abbrev pub byte_at : List ℕ → ℕ → ℕ
byte_at s n = get_or s n 0

abbrev pub flag_at : List ℕ → ℕ → Bool
flag_at s n = eqb (byte_at s n) 1

-- A number of two bytes, high byte first.
abbrev pub pair_at : List ℕ → ℕ → ℕ
pair_at s n = byte_at s n * 256 + byte_at s (n + 1)

-- T-02: the page counters.
abbrev pub counters_at : List ℕ → Counters
counters_at s = counters (pair_at s channel_at) (pair_at s transfer_at) (pair_at s fuser_at) (pair_at s stacker_at)

unfoldable pub state_at : List ℕ → State
state_at s =
    record {
      fixed =
          record {
            length = pair_at s length_at;
            pitches = byte_at s pitches_at ∷ byte_at s (pitches_at + 1) ∷ byte_at s (pitches_at + 2) ∷ byte_at s (pitches_at + 3) ∷ [];
            old = flag_at s skip_at;
          };
      blocked = flag_at s blocked_at;
      forms = record { fcb = take fcb_size (drop fcb_at s); count = byte_at s fcb_count_at };
      slots =
          record {
            loaded = flag_at s loaded_at ∷ flag_at s (loaded_at + 1) ∷ flag_at s (loaded_at + 2) ∷ flag_at s (loaded_at + 3) ∷ [];
            selected = byte_at s selected_at;
          };
      copies = record { pairs = take pair_size (drop pairs_at s); count = byte_at s pair_count_at; reference = byte_at s reference_at };
      sheet = record { line = byte_at s sheet_at; written = flag_at s written_at; waiting = flag_at s waiting_at; due = flag_at s due_at };
      counters = counters_at s;
    }

unfoldable pub sense_at : List ℕ → Sense
sense_at s =
    record {
      b0 = byte_at s sense0_at;
      b1 = byte_at s (sense0_at + 1);
      b2 = byte_at s (sense0_at + 2);
      b22 = byte_at s (sense0_at + 3);
      b23 = byte_at s (sense0_at + 4);
    }

abbrev pub printer_at : List ℕ → Printer
printer_at s = record { state = state_at s; sense = sense_at s }

abbrev pub core_at : List ℕ → Stores → Core
core_at s m = record { state = state_at s; stores = m }

abbrev pub world_at : List ℕ → Stores → World
world_at s m = record { core = core_at s m; sense = sense_at s }

-- What a host lends is bytes.
abbrev pub Bytes : List ℕ → Type 0
Bytes s = (n : ℕ) → byte_at s n ≤ 255

-- Bytes that stand for a printer: as many as a state has, and each flag 0 or 1. Every other range is the printer's own to judge.
abbrev pub flag_places : List ℕ
flag_places = skip_at ∷ blocked_at ∷ loaded_at ∷ (loaded_at + 1) ∷ (loaded_at + 2) ∷ (loaded_at + 3) ∷ written_at ∷ waiting_at ∷ due_at ∷ []

unfoldable pub readable : List ℕ → Bool
readable s = every (eqb (length s) state_size ∷ all (λ n. leb (byte_at s n) 1) flag_places ∷ [])

-- What a printer may differ in from the one that bytes stand for, where only a part of it is put back: in its sheet and its sense; in all but its arrays
-- and its counters; in its counters.
pub record OwnSheet (p : Printer) (s : List ℕ) : Type 0 where
  pub read : readable s ≡ true
  pub same : p.state ≡ with_sheet (state_at s) p.state.sheet

pub record SameArrays (p : Printer) (s : List ℕ) : Type 0 where
  pub read : readable s ≡ true
  pub pairs : p.state.copies.pairs ≡ (state_at s).copies.pairs
  pub fcb : p.state.forms.fcb ≡ (state_at s).forms.fcb
  pub counters : p.state.counters ≡ (state_at s).counters

pub record OwnCounters (p : Printer) (s : List ℕ) : Type 0 where
  pub read : readable s ≡ true
  pub same : p.state ≡ with_counters (state_at s) p.state.counters
  pub sense : p.sense ≡ sense_at s
