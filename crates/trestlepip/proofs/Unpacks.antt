-- What a C host takes out of a packed answer is what the call answered.
use Prim.Native.Nat.{ℕ}
use mathlib.Core.Path.{◌≡◌, refl}
use mathlib.Core.Bool.{Bool, true, false, cond}
use mathlib.Core.List.{List, []}
use lib.ListN.{length}
use lib.Dec.{eqb, lit≤}
use Rattle.numbers.specs.declared.Answer.{Answer}
use Rattle.numbers.specs.declared.Refusal.TheVariants.{BadStore}
use Rattle.numbers.specs.Numbers.{only}
use Rattle.calls.specs.Core.{Stores}
use Rattle.calls.specs.Calls.{Call, lent, Outcome, step}
use Rattle.calls.specs.Start.{start_outcome}
use Rattle.calls.specs.declared.Asked.{Asked}
use Rattle.printer.specs.Layout.{reference_at, state_size}
use Rattle.state.specs.State.{state_at, world_at, Bytes, readable}
use Rattle.state.specs.Packed.{packed}
use Rattle.state.specs.Host.{shown, unread, call_bytes, start_bytes}
use Rattle.state.proofs.Fields.{Fits, Unpacked, fields, only-fits}
use Rattle.state.proofs.Fitting.{step_fits, start_fits}

-- The fields of a call's 64 bits are the call's answer, whatever bytes it was lent; and likewise of Start.
pub record Unpacks (n : ℕ) (a : Answer) : Type 0 where
  pub packs : n ≡ packed a
  pub fields : Unpacked a

unpacks : (t : Bool) (o : Outcome) (buffer s : List ℕ) (m : Stores) → Fits o.answer
    → Unpacks (cond t (shown o) (unread buffer s m)).answer (cond t o.answer (only BadStore 0))
unpacks true o buffer s m h = record { packs = refl; fields = fields o.answer h }
unpacks false o buffer s m h = record { packs = refl; fields = fields (only BadStore 0) (only-fits BadStore 0 (lit≤ tt)) }

pub call-unpacks : (s : List ℕ) (m : Stores) (c : Call) → Bytes s
    → Unpacks (call_bytes s m c).answer (cond (readable s) (step (world_at s m) c).answer (only BadStore 0))
unfolding call_bytes state_at
call-unpacks s m c h = unpacks (readable s) (step (world_at s m) c) (lent c) s m (step_fits (world_at s m) c (h reference_at))

pub start-unpacks : (a : Asked) (s : List ℕ) (m : Stores)
    → Unpacks (start_bytes a s m).answer (cond (eqb (length s) state_size) (start_outcome a m).answer (only BadStore 0))
unfolding start_bytes
start-unpacks a s m = unpacks (eqb (length s) state_size) (start_outcome a m) [] s m (start_fits a m)
