-- What a C host takes out of a packed answer, and of the state that it holds.
use Rattle.std.specs.Prelude.{ℕ, Bool, List, ◌++◌, eqb, take, drop}
use Rattle.line.specs.declared.Unprintables.{Unprintables}
use Rattle.counters.specs.declared.Counters.{Counters}
use Rattle.printer.specs.Layout.{sense0_at, pairs_at}
use Rattle.state.specs.State.{counters_at}
use Rattle.state.specs.Host.{Held}
use Rattle.state.specs.Packed.{field}

-- The answer's number, where 0 is accepted, and whether the call completed a page, each as the C header takes it.
abbrev pub number_in : ℕ → ℕ
number_in answer = field answer 0 8

abbrev pub ready_in : ℕ → Bool
ready_in answer = eqb (field answer 16 1) 1

-- T-01: what it tells of unprintable positions: the first, and how many.
abbrev pub told_by : ℕ → Unprintables
told_by answer = record { first = field answer 41 8; count = field answer 49 15 }

-- T-02: the page counters, as the C header reads them from the state.
abbrev pub counters_in : Held → Counters
counters_in h = counters_at h.state

-- The state's bytes except those of the sense.
abbrev pub but_sense : Held → List ℕ
but_sense h = take sense0_at h.state ++ drop pairs_at h.state
