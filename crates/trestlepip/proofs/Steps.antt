-- Calls over bytes are steps: what a C host gets, of one call and of a list of calls, is what the definitions say.
use Prim.Native.Nat.{ℕ}
use mathlib.Core.Path.{◌≡◌, refl, sym, ap, ◌∙◌}
use mathlib.Core.Bool.{true}
use mathlib.Core.List.{List, [], ◌∷◌}
use Rattle.calls.specs.declared.State.{State}
use Rattle.calls.specs.Core.{Stores, World}
use Rattle.calls.specs.Calls.{Call, step}
use Rattle.calls.specs.Lists.{world_after}
use Rattle.calls.specs.Premises.{Sized}
use Rattle.calls.proofs.Invariants.{sized-call, sized-calls}
use Rattle.state.specs.State.{state_at, world_at, Bytes, readable}
use Rattle.state.specs.Host.{Called, Held, held, held_of, call_on, bytes_after, held_in, shown, call_bytes}
use Rattle.state.proofs.Round.{readable-bytes, state-back, sense-back, sized-at, back}
use Rattle.trestlepip.specs.Host.{counters_in}

-- The counters that a host reads are the printer's.
pub counters-held : (w : World) → Sized w.core.state → counters_in (held_in w) ≡ w.core.state.counters
unfolding state_at
counters-held w z = ap (λ (s : State). s.counters) (state-back w.core.state w.sense z)

-- One call over the bytes of a printer, and a list of them.
pub call-steps : (w : World) (c : Call) → Sized w.core.state → call_on (held_in w) c ≡ shown (step w c)
unfolding call_bytes
call-steps w c z = let s = w.core.state in rw (readable-bytes s w.sense z, state-back s w.sense z, sense-back s w.sense)

pub list_steps : (w : World) (cs : List Call) → Sized w.core.state → bytes_after (held_in w) cs ≡ held_in (world_after w cs)
unfolding bytes_after world_after step
list_steps w [] z = refl
list_steps w (c ∷ cs) z =
    ap (λ (k : Called). bytes_after (held_of k) cs) (call-steps w c z) ∙ list_steps (step w c).world cs (sized-call w.core c z)

-- Any call after a list of calls: its packed answer, its buffer, and what it leaves.
pub call-after : (w : World) (cs : List Call) (c : Call) → Sized w.core.state
    → call_on (bytes_after (held_in w) cs) c ≡ shown (step (world_after w cs) c)
call-after w cs c z = ap (λ (h : Held). call_on h c) (list_steps w cs z) ∙ call-steps (world_after w cs) c (sized-calls w cs z)

-- Whatever bytes stand for a printer: the calls after them are that printer's.
pub bytes-step : (s : List ℕ) (m : Stores) (cs : List Call) → Bytes s → readable s ≡ true
    → bytes_after (held s m) cs ≡ held_in (world_after (world_at s m) cs)
bytes-step s m cs low e =
    ap (λ (l : List ℕ). bytes_after (held l m) cs) (sym (back s low e)) ∙ list_steps (world_at s m) cs (sized-at s e)
