-- What the methods of an accepted call may count on, each fact by its name. p, l and t are the bytes of page, legends and tables.
use Rattle.std.specs.Prelude.{ℕ, ◌+◌, ◌*◌, ◌≤◌, ◌≡◌, true, List, length}
use Rattle.std.specs.Prelude.{Ok}
use Rattle.numbers.specs.Sizes.{line_width, line_bytes, page_lines, page_size, legend_size, slot_size, table_size}
use Rattle.form.specs.declared.Layout.{Layout}
use Rattle.form.specs.Form.{fcb_size}
use Rattle.legends.specs.Legends.{legend_check, legends_ok}
use Rattle.calls.specs.declared.State.{State}
use Rattle.calls.specs.Core.{laid_out}
use Rattle.calls.specs.Premises.{FixedGood}

-- Of a state whose contents were judged good, with its form laid out as w.
pub record Fit (s : State) (w : Layout) : Type 0 where
  pub layout : w ≡ laid_out s
  pub fixed : FixedGood s.fixed
  pub fits : w.top + w.lines ≤ fcb_size
  pub few : w.lines ≤ page_lines
  pub low : 1 ≤ s.sheet.line
  pub high : s.sheet.line ≤ w.lines
  pub slot : s.slots.selected ≤ 3

-- A write, of a record that passed number 2.
pub record Writes (s : State) (w : Layout) (sent p t : List ℕ) : Type 0 where
  pub fit : Fit s w
  pub short : length sent ≤ line_width
  pub page : length p ≡ page_size
  pub tables : length t ≡ table_size

-- A reset.
pub record Resets (s : State) (l t : List ℕ) : Type 0 where
  pub fixed : FixedGood s.fixed
  pub legends : length l ≡ legend_size
  pub tables : length t ≡ table_size

-- The loads of a table and of legends, whose records passed their checks.
pub record LoadsTable (s : State) (sent t : List ℕ) : Type 0 where
  pub slot : s.slots.selected ≤ 3
  pub long : slot_size ≤ length sent
  pub tables : length t ≡ table_size

pub record LoadsLegends (s : State) (sent l t : List ℕ) : Type 0 where
  pub slot : s.slots.selected ≤ 3
  pub sound : legend_check sent ≡ Ok tt
  pub short : length sent ≤ legend_size
  pub legends : length l ≡ legend_size
  pub tables : length t ≡ table_size

-- A copy of the page that waits, by its index.
pub record Composes (s : State) (w : Layout) (copy : ℕ) (out p l : List ℕ) : Type 0 where
  pub fit : Fit s w
  pub low : 1 ≤ copy
  pub high : copy ≤ 255
  pub room : line_bytes * w.lines ≤ length out
  pub page : length p ≡ page_size
  pub legends : legends_ok l ≡ true

-- A release.
pub record Releases (s : State) (p l t : List ℕ) : Type 0 where
  pub resets : Resets s l t
  pub page : length p ≡ page_size
