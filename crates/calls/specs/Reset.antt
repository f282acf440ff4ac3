-- Document 01, "Reset and sense". Every definition here is of that section.
use Rattle.std.specs.Prelude.{ℕ, ◌+◌, Bool, false, not, ◌&&◌, List, [], ◌∷◌, ◌++◌}
use Rattle.seq.specs.Words.{bit, zeros}
use Rattle.numbers.specs.Sizes.{page_size}
use Rattle.numbers.specs.declared.Sense.{Sense}
use Rattle.form.specs.Form.{start_fcb, forms_of}
use Rattle.line.specs.Line.{start_slots, start_tables}
use Rattle.copies.specs.Copies.{start_copies}
use Rattle.legends.specs.Legends.{no_legends}
use Rattle.counters.specs.declared.Counters.{Counters}
use Rattle.calls.specs.declared.Fixed.{Fixed}
use Rattle.calls.specs.declared.Sheet.{Sheet}
use Rattle.calls.specs.declared.State.{State}
use Rattle.calls.specs.Core.{Stores, Core, started}

-- A sheet with nothing written and nothing waiting, and a page with nothing on it.
unfoldable pub blank_sheet : ℕ → Sheet
blank_sheet l = record { line = l; written = false; waiting = false; due = false }

unfoldable pub no_cells : List ℕ
no_cells = zeros page_size

-- What a reset keeps of a state, besides what Start fixed: the check switch, and the page counters (T-02).
pub record Kept : Type 0 where
  pub blocked : Bool
  pub counters : Counters

abbrev pub kept_of : State → Kept
kept_of s = record { blocked = s.blocked; counters = s.counters }

-- The reset. Of what was before, it looks at what Start fixed, at what it keeps, and at the page's bytes, and at nothing else.
unfoldable pub reset_state : Fixed → Kept → State
reset_state f k =
    record {
      fixed = f;
      blocked = k.blocked;
      forms = forms_of (start_fcb f.length);
      slots = start_slots;
      copies = start_copies;
      sheet = blank_sheet 1;
      counters = k.counters;
    }

unfoldable pub reset_stores : List ℕ → Stores
reset_stores page = record { page = page; legends = no_legends; tables = start_tables }

unfoldable pub reset : Core → Core
reset k = record { state = reset_state k.state.fixed (kept_of k.state); stores = reset_stores k.stores.page }

-- The printer as Start or a finished reset leaves it.
unfoldable pub fresh : Fixed → Kept → Core
fresh f k = record { state = reset_state f k; stores = reset_stores no_cells }

-- Byte 3 tells how the printer stands; Sense replies it, the five bytes that are kept, and zeros: `sense_size` bytes in all.
unfoldable pub byte3 : State → ℕ
byte3 s = 0x80 + bit (not (started s.sheet) && not s.sheet.waiting) 0x40 + bit s.blocked 0x20

unfoldable pub sense_bytes : State → Sense → List ℕ
sense_bytes s n = n.b0 ∷ n.b1 ∷ n.b2 ∷ byte3 s ∷ zeros 18 ++ (n.b22 ∷ n.b23 ∷ [])
