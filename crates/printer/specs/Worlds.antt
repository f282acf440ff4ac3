-- Document 01, "Calls": how a `Printer` and the lent stores together form the `World` of the definitions.
use Rattle.std.specs.Prelude.{◌≡◌, List, ℕ}
use Rattle.calls.specs.Core.{Stores, Core, World}
use Rattle.calls.specs.Effects.{Effect}
use Rattle.calls.specs.Calls.{Outcome, outcome_of}
use Rattle.printer.specs.declared.Printer.{Printer}
use Rattle.printer.specs.declared.Step.{Step}

abbrev pub core_of : Printer → Stores → Core
core_of p m = record { state = p.state; stores = m }

abbrev pub world_of : Printer → Stores → World
world_of p m = record { core = core_of p m; sense = p.sense }

-- All that a call hands back: its answer, its buffer, the printer and the stores.
abbrev pub outcome : Step → List ℕ → Stores → Outcome
outcome r buffer m = record { answer = r.answer; buffer = buffer; world = world_of r.printer m }

-- The printer p, lent the stores m, has done what e says: the answer and the printer are those of r, the stores m', any buffer unchanged.
abbrev pub Did : Printer → Stores → Step → Stores → (Core → Effect) → Type 0
Did p m r m' e = (b : List ℕ) → outcome r b m' ≡ outcome_of p.sense b (e (core_of p m))
