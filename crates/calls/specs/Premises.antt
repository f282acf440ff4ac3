-- What is known of contents that get no 9, of a state's arrays, and of a call that nothing refuses, each fact by its name. Contracts ask for these; the laws
-- that give them are in proofs/Good, proofs/Invariants and proofs/Accepted.
use Rattle.std.specs.Prelude.{ℕ, ◌*◌, ◌≤◌, ◌≡◌, true, false, not, ◌&&◌, List, length, ltb}
use Rattle.std.specs.Prelude.{Ok}
use Rattle.numbers.specs.Sizes.{line_bytes, page_size, legend_size, table_size, sense_size}
use Rattle.form.specs.declared.Forms.{Forms}
use Rattle.form.specs.Form.{form_ok, fcb_check, fcb_size, fcb_now, forms_in_range}
use Rattle.line.specs.Cells.{marks_ok}
use Rattle.line.specs.Line.{slots_in_range}
use Rattle.copies.specs.declared.Copies.{Copies}
use Rattle.copies.specs.Copies.{sequence_check, pair_size, sequence_now, copy_count, copies_in_range}
use Rattle.legends.specs.Legends.{legends_ok}
use Rattle.counters.specs.Counters.{counters_ok}
use Rattle.calls.specs.declared.Fixed.{Fixed}
use Rattle.calls.specs.declared.Sheet.{Sheet}
use Rattle.calls.specs.declared.State.{State}
use Rattle.calls.specs.declared.Command.{Command}
use Rattle.calls.specs.Core.{Stores, Core, sizes_ok, P, started}
use Rattle.calls.specs.Commands.{Issued, traits_of, is_unlisted, is_load}
use Rattle.calls.specs.Contents.{due_ok, written_ok, core_ok}
use Rattle.calls.specs.Calls.{bad_record, check_of}
use Rattle.calls.specs.Start.{skip_ok}
use Rattle.calls.specs.declared.Asked.{Asked}

-- Contents that a printer can have, part by part.
pub record Sizes (m : Stores) : Type 0 where
  pub page : length m.page ≡ page_size
  pub legends : length m.legends ≡ legend_size
  pub tables : length m.tables ≡ table_size

pub record FormsGood (len : ℕ) (f : Forms) : Type 0 where
  pub range : forms_in_range f ≡ true
  pub sound : fcb_check len (fcb_now f) ≡ Ok tt

pub record CopiesGood (c : Copies) : Type 0 where
  pub range : copies_in_range c ≡ true
  pub sound : sequence_check (sequence_now c) ≡ Ok tt

pub record SheetGood (p : ℕ) (s : Sheet) : Type 0 where
  pub low : 1 ≤ s.line
  pub high : s.line ≤ p
  pub due : due_ok s ≡ true
  pub written : written_ok s ≡ true

abbrev pub FixedGood : Fixed → Type 0
FixedGood f = form_ok f.length f.pitches ≡ true

pub record Good (k : Core) : Type 0 where
  pub sizes : Sizes k.stores
  pub fixed : FixedGood k.state.fixed
  pub forms : FormsGood k.state.fixed.length k.state.forms
  pub slots : slots_in_range k.state.slots ≡ true
  pub copies : CopiesGood k.state.copies
  pub sheet : SheetGood (P k.state) k.state.sheet
  pub legends : legends_ok k.stores.legends ≡ true
  pub counters : counters_ok k.state.counters ≡ true
  pub marks : marks_ok k.stores.page ≡ true

-- No page waits.
abbrev pub Free : Core → Type 0
Free k = k.state.sheet.waiting ≡ false

-- The arrays of a state are as long as their types say.
pub record Sized (s : State) : Type 0 where
  pub pitches : length s.fixed.pitches ≡ 4
  pub loaded : length s.slots.loaded ≡ 4
  pub pairs : length s.copies.pairs ≡ pair_size
  pub fcb : length s.forms.fcb ≡ fcb_size

-- A command, a Compose and a Start that nothing refuses: no test of its order held.
pub record Allowed (k : Core) (c : Command) (i : Issued) : Type 0 where
  pub ok : core_ok k ≡ true
  pub known : is_unlisted c ≡ false
  pub free : (k.state.sheet.waiting && not (traits_of c).quiet) ≡ false
  pub sized : bad_record c i ≡ false
  pub unstarted : (is_load c && started k.state.sheet) ≡ false
  pub sound : check_of k.state c i ≡ Ok tt
  pub roomy : ((traits_of c).replies && ltb (length i.reply) sense_size) ≡ false

pub record Composable (k : Core) (n : ℕ) (out : List ℕ) : Type 0 where
  pub ok : core_ok k ≡ true
  pub low : 1 ≤ n
  pub high : n ≤ copy_count k.state.copies
  pub room : line_bytes * P k.state ≤ length out

pub record Startable (a : Asked) (m : Stores) : Type 0 where
  pub sizes : sizes_ok m ≡ true
  pub form : form_ok a.length a.pitches ≡ true
  pub skip : skip_ok a.skip ≡ true
