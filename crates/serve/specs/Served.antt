-- What the functions here ask of the state's bytes, and what they did over them.
use Rattle.std.specs.Prelude.{ℕ, ◌≤◌, ◌≡◌, true, false, ◌&&◌, List, length, ltb}
use Rattle.std.specs.Prelude.{Ok}
use Rattle.seq.specs.Words.{first_or}
use Rattle.numbers.specs.Sizes.{legend_size, table_size, sense_size}
use Rattle.numbers.specs.declared.Answer.{Answer}
use Rattle.numbers.specs.declared.Refusal.TheVariants.{Accepted}
use Rattle.form.specs.declared.Layout.{Layout}
use Rattle.calls.specs.declared.Command.{Command}
use Rattle.calls.specs.declared.Control.{Control}
use Rattle.calls.specs.declared.Load.{Load}
use Rattle.calls.specs.Core.{Stores, Core, laid_out}
use Rattle.calls.specs.Commands.{Issued, control_traits}
use Rattle.calls.specs.Effects.{Effect, load_check}
use Rattle.calls.specs.Calls.{command_tests, outcome_of}
use Rattle.calls.specs.Premises.{FixedGood}
use Rattle.printer.specs.Layout.{state_size}
use Rattle.printer.specs.Premises.{Resets}
use Rattle.state.specs.State.{state_at, sense_at, core_at, readable}
use Rattle.state.specs.Contents.{sound_bytes}
use Rattle.state.specs.Host.{left, shown}

-- Bytes that stand for a printer.
pub record Readable (s : List ℕ) : Type 0 where
  pub size : length s ≡ state_size
  pub read : readable s ≡ true

-- Bytes and stores that were judged good, with the form laid out as w.
pub record Judged (s : List ℕ) (m : Stores) (w : Layout) : Type 0 where
  pub bytes : Readable s
  pub sound : sound_bytes s m ≡ true
  pub layout : w ≡ laid_out (state_at s)

-- A command on such, that nothing refuses.
pub record Accepts (s : List ℕ) (m : Stores) (w : Layout) (c : Command) (i : Issued) : Type 0 where
  pub judged : Judged s m w
  pub free : first_or Accepted (command_tests (core_at s m) c i) ≡ Accepted

-- Bytes that stand for a printer, and what a method asks.
pub record Asks (s : List ℕ) (A : Type 0) : Type 0 where
  pub bytes : Readable s
  pub asks : A

-- A load whose record passed its check; l and t are the bytes of legends and tables.
pub record AsksLoad (s : List ℕ) (load : Load) (sent l t : List ℕ) : Type 0 where
  pub bytes : Readable s
  pub fixed : FixedGood (state_at s).fixed
  pub slot : (state_at s).slots.selected ≤ 3
  pub check : load_check (state_at s) load sent ≡ Ok tt
  pub short : length sent ≤ legend_size
  pub legends : length l ≡ legend_size
  pub tables : length t ≡ table_size

-- A control command: room for its reply, if it has one, and what a reset asks.
pub record AsksControl (s : List ℕ) (control : Control) (reply l t : List ℕ) : Type 0 where
  pub bytes : Readable s
  pub roomy : ((control_traits control).replies && ltb (length reply) sense_size) ≡ false
  pub resets : Resets (state_at s) l t

-- The effect e, done over the state's bytes s and the stores m: the answer is a, s is left as s' and m as m', and the buffer b as b'.
abbrev pub Served : (Core → Effect) → List ℕ → Stores → List ℕ → Answer → List ℕ → Stores → List ℕ → Type 0
Served e s m b a s' m' b' = left a b' s' m' ≡ shown (outcome_of (sense_at s) b (e (core_at s m)))
