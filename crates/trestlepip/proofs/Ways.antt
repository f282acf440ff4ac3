-- T-05 as a C host sees it: two printers that are started alike but for the way of skipping. As long as no call is an immediate skip that stands in the new
-- way, each call gets the same answer and buffer from both, and leaves the same bytes but for the one that has the way.
use Prim.Native.Nat.{ℕ}
use mathlib.Core.Path.{◌≡◌, refl, ap, ◌∙◌}
use mathlib.Core.Bool.{true, false}
use mathlib.Core.List.{List}
use lib.ListN.{length, set}
use Rattle.numbers.specs.declared.Sense.{Sense}
use Rattle.calls.specs.declared.State.{State}
use Rattle.calls.specs.Core.{Stores, World}
use Rattle.calls.specs.Reset.{reset_state, fresh}
use Rattle.calls.specs.Calls.{Call, step}
use Rattle.calls.specs.Start.{asked, new_way, old_way, start_world}
use Rattle.calls.specs.declared.Asked.{Asked}
use Rattle.calls.specs.Lists.{world_after}
use Rattle.calls.specs.Ways.{with_way, world_in, call_stands, none_stands}
use Rattle.calls.proofs.Ways.{same_step, same-list}
use Rattle.printer.specs.Layout.{skip_at}
use Rattle.state.specs.State.{bytes_of}
use Rattle.state.specs.Host.{called, shown, held_of, call_on, bytes_after, start_bytes}
use Rattle.trestlepip.specs.Host.{number_in}
use Rattle.trestlepip.proofs.Starts.{call-after-start}

-- The byte that has the way, and no other, tells the two ways apart.
way-byte : (s : State) (q : Sense) → bytes_of (with_way s true) q ≡ set (bytes_of s q) skip_at old_way
unfolding bytes_of
way-byte s q = refl

module _ (form : ℕ) (pitches : List ℕ) where
  abbrev new : Asked
  new = asked form pitches new_way

  abbrev old : Asked
  old = asked form pitches old_way

  same_start : start_world old ≡ world_in true (start_world new)
  unfolding start_world fresh reset_state
  same_start = refl

  pub ways-alike-in : (s s' : List ℕ) (m m' : Stores) → length pitches ≡ 4 → number_in (start_bytes new s m).answer ≡ 0 → number_in (start_bytes old s' m').answer ≡ 0
      → (cs : List Call) → none_stands (start_world new).core cs ≡ true
      → (c : Call) → call_stands (world_after (start_world new) cs).core c ≡ false
      → (let k = call_on (bytes_after (held_of (start_bytes new s m)) cs) c in
      call_on (bytes_after (held_of (start_bytes old s' m')) cs) c ≡ called k.answer k.buffer (set k.state skip_at old_way) k.stores)
  ways-alike-in s s' m m' four e e' cs none c moves =
      let o = step (world_after (start_world new) cs) c in
      let other : step (world_after (start_world old) cs) c ≡ record { answer = o.answer; buffer = o.buffer; world = world_in true o.world } =
      ap (λ (w : World). step (world_after w cs) c) same_start ∙ ap (λ (w : World). step w c) (same-list true (start_world new) cs none)
      ∙ same_step true (world_after (start_world new) cs) c moves in
      rw (call-after-start new s m e four cs c)
      (call-after-start old s' m' e' four cs c ∙ ap shown other
      ∙ ap (λ (l : List ℕ). called (shown o).answer o.buffer l o.world.core.stores) (way-byte o.world.core.state o.world.sense))
