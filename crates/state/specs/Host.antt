-- Document 01, "Calls": the calls as a C host makes them, over the state's bytes; and T-04's, which has no state.
use Rattle.std.specs.Prelude.{ℕ, cond, List, [], ◌∷◌, eqb, length, Float}
use Rattle.numbers.specs.declared.Answer.{Answer}
use Rattle.numbers.specs.declared.Refusal.TheVariants.{BadStore}
use Rattle.numbers.specs.Numbers.{only}
use Rattle.paper.specs.Feet.{Sent, paper_used}
use Rattle.calls.specs.Core.{Stores, World}
use Rattle.calls.specs.Calls.{Call, Outcome, lent, step}
use Rattle.calls.specs.Start.{start_outcome}
use Rattle.calls.specs.declared.Asked.{Asked}
use Rattle.printer.specs.Layout.{state_size}
use Rattle.state.specs.State.{bytes_of, world_at, readable}
use Rattle.state.specs.Packed.{packed}

abbrev pub bytes_in : World → List ℕ
bytes_in w = bytes_of w.core.state w.sense

-- All that a call hands back and leaves: its packed answer, its buffer, the state's bytes and the stores.
pub record Called : Type 0 where
  pub answer : ℕ
  pub buffer : List ℕ
  pub state : List ℕ
  pub stores : Stores

abbrev pub called : ℕ → List ℕ → List ℕ → Stores → Called
called answer buffer state m = record { answer = answer; buffer = buffer; state = state; stores = m }

-- What a call left, its answer not yet packed; and an outcome as the host finds it.
abbrev pub left : Answer → List ℕ → List ℕ → Stores → Called
left a buffer state m = called (packed a) buffer state m

abbrev pub shown : Outcome → Called
shown o = left o.answer o.buffer (bytes_in o.world) o.world.core.stores

-- Numbers, 9: bytes that stand for no printer get it, and nothing is written.
abbrev pub unread : List ℕ → List ℕ → Stores → Called
unread buffer s m = left (only BadStore 0) buffer s m

-- Command, Compose and Release.
unfoldable pub call_bytes : List ℕ → Stores → Call → Called
call_bytes s m c = cond (readable s) (shown (step (world_at s m) c)) (unread (lent c) s m)

-- Start reads no state; it needs only the room for one.
unfoldable pub start_bytes : Asked → List ℕ → Stores → Called
start_bytes a s m = cond (eqb (length s) state_size) (shown (start_outcome a m)) (unread [] s m)

-- What a host holds between calls: the state's bytes and the stores; and what a list of calls leaves of it, where each gets what the one before it
-- left.
pub record Held : Type 0 where
  pub state : List ℕ
  pub stores : Stores

abbrev pub held : List ℕ → Stores → Held
held s m = record { state = s; stores = m }

abbrev pub held_of : Called → Held
held_of k = held k.state k.stores

abbrev pub call_on : Held → Call → Called
call_on h c = call_bytes h.state h.stores c

unfoldable pub bytes_after : Held → List Call → Held
bytes_after h [] = h
bytes_after h (c ∷ cs) = bytes_after (held_of (call_on h c)) cs

abbrev pub held_in : World → Held
held_in w = held (bytes_in w) w.core.stores

-- T-04: all that the call for feet of paper hands back and leaves: its packed answer, which tells its number alone, and the double that it was lent.
pub record Told : Type 0 where
  pub answer : ℕ
  pub feet : Float

abbrev pub told : ℕ → Float → Told
told answer feet = record { answer = answer; feet = feet }

unfoldable pub feet_told : Sent → Told
feet_told t = let p = paper_used t in told (packed (only p.refusal 0)) p.feet
