-- Accepted or refused, as the definition has it.
use mathlib.Core.Path.{◌≡◌, refl, sym, ap, ◌∙◌}
use mathlib.Core.Bool.{Bool, true, false}
use mathlib.Core.List.{[], ◌∷◌}
use Rattle.std.specs.Prelude.{Result, Ok, Err}
use Rattle.seq.specs.Words.{when, first_or}
use Rattle.numbers.specs.declared.Refusal.{Refusal}
use Rattle.numbers.specs.declared.Refusal.TheVariants.{Accepted, BadStore, BadForm}
use Rattle.numbers.specs.Numbers.{no_sense, sense_after, row_of, only}
use Rattle.calls.specs.Core.{Stores, stores_of}
use Rattle.calls.specs.Effects.{refused}
use Rattle.calls.specs.Calls.{outcome_of}
use Rattle.calls.specs.Premises.{Startable}
use Rattle.calls.specs.Start.{start_tests, start_refusal, start_world, no_state, no_printer, start_outcome}
use Rattle.calls.specs.declared.Asked.{Asked}
use Rattle.calls.proofs.Accepted.{startable}
use Rattle.calls.proofs.Refused.{refused-start}
use Rattle.refusals.specs.Verdict.{verdict}
use Rattle.refusals.proofs.Laws.{accepts, refuses}
use Rattle.state.specs.Host.{shown}
use Rattle.serve.proofs.begin.Goals as goal

-- no refusal of Start leaves a sense
no-sense : (a b : Bool) → sense_after no_sense (row_of 0 (first_or Accepted (when a BadStore ∷ when b BadForm ∷ []))).sense ≡ no_sense
unfolding first_or when row_of
no-sense true b = refl
no-sense false true = refl
no-sense false false = refl

module _ (a : Asked) (m : Stores) {v : Result Unit Refusal} (given : v ≡ verdict (first_or Accepted (start_tests a m))) where
  allowed : v ≡ Ok tt → Startable a m
  unfolding start_refusal
  allowed e = startable a m (accepts _ given e)

  accepted : v ≡ Ok tt → record { answer = only Accepted 0; buffer = []; world = start_world a } ≡ start_outcome a m
  unfolding start_outcome start_refusal
  accepted e = rw (accepts _ given e)

  turned-down : {x : Refusal} → v ≡ Err x → outcome_of no_sense [] (refused (no_printer m).core 0 x) ≡ start_outcome a m
  unfolding refused no_printer start_refusal
  turned-down e = let y = refuses given e in rw (← y.0) (rw (no-sense _ _) (sym (refused-start a m y.1)))

pub start-requires : goal.start-requires
start-requires c = allowed _ _ (c.start_refusal.ensures _ (sym c.sizes_ok-sized.ensures)) c.in-Ok.is

pub returns-in-Ok : goal.returns-in-Ok
returns-in-Ok c =
    rw (c.put_all.ensures.answer, c.put_all.ensures.state)
    (ap shown (c.start.ensures ∙ accepted _ _ (c.start_refusal.ensures _ (sym c.sizes_ok-sized.ensures)) c.in-Ok.is))

pub returns-in-Err : goal.returns-in-Err
unfolding no_printer no_state
returns-in-Err c =
    let m = stores_of c.args.page.now c.args.legends.now c.args.tables.now in
    rw (c.put_all-in-Err.ensures.answer, c.put_all-in-Err.ensures.state)
    (ap shown (c.refuse.ensures m [] ∙ turned-down _ _ (c.start_refusal.ensures m (sym c.sizes_ok-sized.ensures)) c.in-Err.is))
