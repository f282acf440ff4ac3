-- Start as a C host sees it. An accepted one leaves a printer just started, and no call after it gets 9; a refused one hands back zeros, which every call
-- refuses.
use Prim.Native.Nat.{ℕ}
use mathlib.Core.Path.{◌≡◌, refl, sym, ap, ◌∙◌}
use mathlib.Core.Bool.{Bool, true, false, cond}
use mathlib.Core.List.{List, []}
use native.Mathlib.Omega.{arith}
use lib.ListN.{length}
use lib.Dec.{eqb}
use borrow.Author.Tests.{eq-eqb}
use Rattle.seq.specs.Words.{zeros}
use Rattle.seq.proofs.Laws.{cond_has}
use Rattle.numbers.specs.declared.Refusal.TheVariants.{BadStore}
use Rattle.numbers.specs.Numbers.{row_of, number_of, is_accepted, only}
use Rattle.numbers.proofs.Laws.{accepted-is}
use Rattle.calls.specs.Core.{Stores}
use Rattle.calls.specs.Reset.{fresh}
use Rattle.calls.specs.Calls.{Call, lent, Outcome, step}
use Rattle.calls.specs.Start.{fixed_by, start_refusal, start_kept, start_world, no_state, no_printer, start_outcome}
use Rattle.calls.specs.declared.Asked.{Asked}
use Rattle.calls.specs.Lists.{world_after}
use Rattle.calls.specs.Premises.{Sized}
use Rattle.calls.proofs.Accepted.{startable, started-world}
use Rattle.calls.proofs.Refused.{refused-start, zeros-nine}
use Rattle.calls.proofs.Invariants.{reset-sized, never-9}
use Rattle.printer.specs.Layout.{state_size}
use Rattle.state.specs.State.{bytes_of}
use Rattle.state.specs.Packed.{packed}
use Rattle.state.specs.Host.{bytes_in, called, held_of, call_on, bytes_after, held_in, shown, unread, call_bytes, start_bytes}
use Rattle.state.proofs.Fields.{number-back}
use Rattle.trestlepip.specs.Host.{number_in}
use Rattle.trestlepip.proofs.Steps.{call-steps, list_steps, call-after}

start-names : (a : Asked) (m : Stores) → (start_outcome a m).answer.refusal ≡ start_refusal a m
unfolding start_outcome
start-names a m =
    cond_has (λ (o : Outcome). o.answer.refusal ≡ start_refusal a m) (is_accepted (start_refusal a m)) (λ e. sym (accepted-is _ e)) (λ e. refl)

-- A Start over bytes is accepted where the state has its room and the Start is accepted.
start-accepted : (a : Asked) (s : List ℕ) (m : Stores) → number_in (start_bytes a s m).answer ≡ 0
    → (start_bytes a s m ≡ shown (start_outcome a m)) × (is_accepted (start_refusal a m) ≡ true)
unfolding start_bytes is_accepted row_of
start-accepted a s m e = go (eqb (length s) state_size) e
  where
    go : (t : Bool) → number_in (cond t (shown (start_outcome a m)) (unread [] s m)).answer ≡ 0
        → (cond t (shown (start_outcome a m)) (unread [] s m) ≡ shown (start_outcome a m)) × (is_accepted (start_refusal a m) ≡ true)
    go true e = (refl, eq-eqb _ _ (ap number_of (sym (start-names a m)) ∙ sym (number-back (start_outcome a m).answer) ∙ e))
    go false e = let z : ◌≡◌ {A = ℕ} 9 0 = sym (number-back (only BadStore 0)) ∙ e in absurd (omega arith)

-- An accepted one: what it leaves depends on nothing that the host lent. Four pitches are what trestlepip_start passes.
module _ (a : Asked) (s : List ℕ) (m : Stores) (accepted : number_in (start_bytes a s m).answer ≡ 0) where
  pub start-taken : is_accepted (start_refusal a m) ≡ true
  start-taken = (start-accepted a s m accepted).1

  pub start-leaves : held_of (start_bytes a s m) ≡ held_in (start_world a)
  start-leaves = ap held_of (start-accepted a s m accepted).0 ∙ ap held_in (started-world a m start-taken)

  module _ (four : length a.pitches ≡ 4) where
    pub start-sized : Sized (start_world a).core.state
    unfolding start_world fresh
    start-sized = reset-sized (fixed_by a) start_kept (startable a m start-taken).form four

    -- what calls after it leave, and what each of them answers, writes and leaves, is what the definitions say
    pub list-after-start : (cs : List Call) → bytes_after (held_of (start_bytes a s m)) cs ≡ held_in (world_after (start_world a) cs)
    list-after-start cs = rw start-leaves (list_steps (start_world a) cs start-sized)

    pub call-after-start : (cs : List Call) (c : Call)
        → call_on (bytes_after (held_of (start_bytes a s m)) cs) c ≡ shown (step (world_after (start_world a) cs) c)
    call-after-start cs c = rw start-leaves (call-after (start_world a) cs c start-sized)

    -- no call after it gets number 9
    pub never-9-in : (cs : List Call) (c : Call) → eqb (number_in (call_on (bytes_after (held_of (start_bytes a s m)) cs) c).answer) 9 ≡ false
    never-9-in cs c =
        rw (call-after-start cs c, number-back (step (world_after (start_world a) cs) c).answer, ← (started-world a m start-taken))
        (never-9 a m cs c start-taken)

-- A refused one hands back a state of all zeros and leaves the stores; every call except Start refuses that state with 9.
pub zero-bytes : (m : Stores) → bytes_in (no_printer m) ≡ zeros state_size
unfolding bytes_of no_printer no_state
zero-bytes m = refl

pub start-refused : (a : Asked) (s : List ℕ) (m : Stores) → length s ≡ state_size → is_accepted (start_refusal a m) ≡ false
    → (let x = start_refusal a m in start_bytes a s m ≡ called (packed (only x (row_of 0 x).status)) [] (zeros state_size) m)
unfolding start_bytes no_printer
start-refused a s m h e =
    let x = start_refusal a m in
    rw (eq-eqb _ _ h, refused-start a m e) (ap (λ (l : List ℕ). called (packed (only x (row_of 0 x).status)) [] l m) (zero-bytes m))

zero-sized : (m : Stores) → Sized (no_printer m).core.state
unfolding no_printer no_state
zero-sized m = record { pitches = refl; loaded = refl; pairs = refl; fcb = refl }

pub zeros-refused : (m : Stores) (c : Call) → call_bytes (zeros state_size) m c ≡ unread (lent c) (zeros state_size) m
unfolding no_printer
zeros-refused m c = rw (← (zero-bytes m)) (call-steps (no_printer m) c (zero-sized m) ∙ ap shown (zeros-nine m c))
