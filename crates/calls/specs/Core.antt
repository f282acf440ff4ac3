-- Document 01, "Calls": what a call is handed.
use Rattle.std.specs.Prelude.{ℕ, Bool, not, ◌||◌, List, [], ◌∷◌, length, eqb}
use Rattle.seq.specs.Words.{every}
use Rattle.numbers.specs.Sizes.{page_size, table_size, legend_size}
use Rattle.numbers.specs.declared.Sense.{Sense}
use Rattle.form.specs.declared.Layout.{Layout}
use Rattle.form.specs.declared.Forms.{Forms}
use Rattle.form.specs.Form.{fcb_now, printable, layout_of}
use Rattle.line.specs.declared.Slots.{Slots}
use Rattle.copies.specs.declared.Copies.{Copies}
use Rattle.counters.specs.declared.Counters.{Counters}
use Rattle.calls.specs.declared.Sheet.{Sheet}
use Rattle.calls.specs.declared.State.{State}

-- Calls: the lent stores, and their sizes.
pub record Stores : Type 0 where
  pub page : List ℕ
  pub legends : List ℕ
  pub tables : List ℕ

abbrev pub stores_of : List ℕ → List ℕ → List ℕ → Stores
stores_of page legends tables = record { page = page; legends = legends; tables = tables }

unfoldable pub sizes_ok : Stores → Bool
sizes_ok m = every (eqb (length m.page) page_size ∷ eqb (length m.legends) legend_size ∷ eqb (length m.tables) table_size ∷ [])

-- Calls: all except the sense, and all. No call except Sense reads the sense, so that what a call does is a function of the core.
pub record Core : Type 0 where
  pub state : State
  pub stores : Stores

pub record World : Type 0 where
  pub core : Core
  pub sense : Sense

-- Parts of it replaced.
abbrev pub with_state : Core → State → Core
with_state k s = record { state = s; stores = k.stores }

abbrev pub with_page : Core → List ℕ → Core
with_page k p = record { state = k.state; stores = record { page = p; legends = k.stores.legends; tables = k.stores.tables } }

abbrev pub with_legends : Core → List ℕ → Core
with_legends k l = record { state = k.state; stores = record { page = k.stores.page; legends = l; tables = k.stores.tables } }

abbrev pub with_tables : Core → List ℕ → Core
with_tables k t = record { state = k.state; stores = record { page = k.stores.page; legends = k.stores.legends; tables = t } }

abbrev pub with_blocked : State → Bool → State
with_blocked s b = record { fixed = s.fixed; blocked = b; forms = s.forms; slots = s.slots; copies = s.copies; sheet = s.sheet; counters = s.counters }

abbrev pub with_forms : State → Forms → State
with_forms s f = record { fixed = s.fixed; blocked = s.blocked; forms = f; slots = s.slots; copies = s.copies; sheet = s.sheet; counters = s.counters }

abbrev pub with_slots : State → Slots → State
with_slots s t = record { fixed = s.fixed; blocked = s.blocked; forms = s.forms; slots = t; copies = s.copies; sheet = s.sheet; counters = s.counters }

abbrev pub with_copies : State → Copies → State
with_copies s c = record { fixed = s.fixed; blocked = s.blocked; forms = s.forms; slots = s.slots; copies = c; sheet = s.sheet; counters = s.counters }

abbrev pub with_sheet : State → Sheet → State
with_sheet s x = record { fixed = s.fixed; blocked = s.blocked; forms = s.forms; slots = s.slots; copies = s.copies; sheet = x; counters = s.counters }

abbrev pub with_counters : State → Counters → State
with_counters s c = record { fixed = s.fixed; blocked = s.blocked; forms = s.forms; slots = s.slots; copies = s.copies; sheet = s.sheet; counters = c }

-- Form and forms control: the bytes of the printable lines of the form as it stands, and P.
unfoldable pub lines_now : State → List ℕ
lines_now s = printable s.fixed.length (fcb_now s.forms)

abbrev pub P : State → ℕ
P s = length (lines_now s)

-- The form of a state, laid out: what the checks ask of it, and where its printable lines stand.
abbrev pub laid_out : State → Layout
laid_out s = layout_of s.fixed.length (fcb_now s.forms)

-- Movement: a started page has the form past line 1, or something written on it, which at line 1 can only be line 1 itself.
unfoldable pub started : Sheet → Bool
started s = not (eqb s.line 1) || s.written
