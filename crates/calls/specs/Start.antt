-- Document 01, "Calls" and "Numbers": Start, and what a refused Start hands back.
use Rattle.std.specs.Prelude.{ℕ, Bool, false, cond, not, ◌&&◌, List, [], ◌∷◌, replicate, eqb}
use Rattle.std.proofs.Math.Option.{Option}
use Rattle.seq.specs.Words.{when, first_or, listed, zeros}
use Rattle.numbers.specs.declared.Refusal.{Refusal}
use Rattle.numbers.specs.declared.Refusal.TheVariants.{Accepted, BadStore, BadForm}
use Rattle.numbers.specs.Numbers.{no_sense, row_of, is_accepted, only}
use Rattle.form.specs.Form.{form_ok, fcb_size}
use Rattle.copies.specs.Copies.{pair_size}
use Rattle.counters.specs.Counters.{start_counters}
use Rattle.calls.specs.declared.Asked.{Asked}
use Rattle.calls.specs.declared.Fixed.{Fixed}
use Rattle.calls.specs.declared.State.{State}
use Rattle.calls.specs.Core.{Stores, sizes_ok, World}
use Rattle.calls.specs.Reset.{Kept, fresh}
use Rattle.calls.specs.Calls.{Outcome}

-- Calls: what Start is asked for, the numbers as they were passed; and what it fixes.
abbrev pub asked : ℕ → List ℕ → ℕ → Asked
asked len ps skip = record { length = len; pitches = ps; skip = skip }

-- T-05: the two ways of an immediate skip, as Start is asked for them.
abbrev pub new_way : ℕ
new_way = 0

abbrev pub old_way : ℕ
old_way = 1

unfoldable pub skip_ok : ℕ → Bool
skip_ok n = listed (new_way ∷ old_way ∷ []) n

abbrev pub fixed_by : Asked → Fixed
fixed_by a = record { length = a.length; pitches = a.pitches; old = eqb a.skip old_way }

-- Numbers: the order of Start is 9, by sizes alone, then 10, T-05's way of skipping too.
abbrev pub start_tests : Asked → Stores → List (Option Refusal)
start_tests a m =
    when (not (sizes_ok m)) BadStore
    ∷ when (not (form_ok a.length a.pitches && skip_ok a.skip)) BadForm
    ∷ []

unfoldable pub start_refusal : Asked → Stores → Refusal
start_refusal a m = first_or Accepted (start_tests a m)

-- Calls, Reset and sense: what an accepted Start leaves: all as a reset leaves it, the page empty, the checks allowed, the sense clear; and the
-- page counters at zero (T-02).
abbrev pub start_kept : Kept
start_kept = record { blocked = false; counters = start_counters }

unfoldable pub start_world : Asked → World
start_world a = record { core = fresh (fixed_by a) start_kept; sense = no_sense }

-- Numbers: what a refused Start hands back: a state of all zeros, beside the stores as they were.
unfoldable pub no_state : State
no_state =
    record {
      fixed = record { length = 0; pitches = zeros 4; old = false };
      blocked = false;
      forms = record { fcb = zeros fcb_size; count = 0 };
      slots = record { loaded = replicate 4 false; selected = 0 };
      copies = record { pairs = zeros pair_size; count = 0; reference = 0 };
      sheet = record { line = 0; written = false; waiting = false; due = false };
      counters = start_counters;
    }

unfoldable pub no_printer : Stores → World
no_printer m = record { core = record { state = no_state; stores = m }; sense = no_sense }

-- Calls: Start. Accepted it gives status 00, refused that of its number.
unfoldable pub start_outcome : Asked → Stores → Outcome
start_outcome a m =
    let x = start_refusal a m in
    cond (is_accepted x)
    (record { answer = only Accepted 0; buffer = []; world = start_world a })
    (record { answer = only x (row_of 0 x).status; buffer = []; world = no_printer m })
