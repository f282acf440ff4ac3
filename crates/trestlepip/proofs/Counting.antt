-- T-02 as a C host sees it: the law of the pages over the counters that it reads, what Start leaves of them, which of them calls lead to, and which calls
-- get 12 and 13, whatever bytes are lent.
use Prim.Native.Nat.{ℕ, ◌-◌}
use mathlib.Core.Path.{◌≡◌, refl, sym, ap, ◌∙◌}
use mathlib.Core.Bool.{Bool, true, false, cond, ◌&&◌}
use mathlib.Core.List.{List, [], ◌∷◌}
use lib.ListN.{length}
use lib.Dec.{eqb}
use Rattle.numbers.specs.declared.Refusal.TheVariants.{BadStore}
use Rattle.numbers.specs.Numbers.{row_of, is_accepted, only}
use Rattle.counters.specs.declared.Counters.{Counters}
use Rattle.counters.specs.Counters.{start_counters, pages_out, counters_ok}
use Rattle.calls.specs.Core.{Stores, World}
use Rattle.calls.specs.Reset.{reset_state, fresh}
use Rattle.calls.specs.Calls.{Call, lent, step}
use Rattle.calls.specs.Start.{start_world}
use Rattle.calls.specs.declared.Asked.{Asked}
use Rattle.calls.specs.Lists.{world_after}
use Rattle.calls.specs.Pages.{Pages, no_pages, pages_over}
use Rattle.calls.specs.Premises.{Sized}
use Rattle.calls.proofs.Accepted.{started-world}
use Rattle.calls.proofs.Answers.{names}
use Rattle.calls.proofs.Invariants.{sized-call, sized-calls}
use Rattle.calls.proofs.Counting.{pages-law, gets_twelve, gets_thirteen, twelve-exactly, thirteen-exactly}
use Rattle.calls.proofs.Reached.{every-reached}
use Rattle.state.specs.State.{core_at, world_at, readable}
use Rattle.state.specs.Host.{Held, held_of, bytes_after, held_in, shown, unread, call_bytes, start_bytes}
use Rattle.state.proofs.Fields.{number-back}
use Rattle.trestlepip.specs.Host.{number_in, counters_in}
use Rattle.trestlepip.specs.Pages.{pages_in}
use Rattle.trestlepip.proofs.Steps.{counters-held, call-steps}
use Rattle.trestlepip.proofs.Starts.{start-taken, start-leaves, start-sized, list-after-start}

-- What a host counts is what the definitions count.
pages-told : (w : World) (p : Pages) (cs : List Call) → Sized w.core.state → pages_in (held_in w) p cs ≡ pages_over w.core p cs
unfolding pages_in pages_over step is_accepted
pages-told w p [] z = refl
pages-told w p (c ∷ cs) z =
    rw (call-steps w c z, number-back (step w c).answer, names w c, counters-held w z)
    (pages-told (step w c).world _ cs (sized-call w.core c z))

module _ (a : Asked) (s : List ℕ) (m : Stores) (accepted : number_in (start_bytes a s m).answer ≡ 0) (four : length a.pitches ≡ 4) where
  abbrev begun : Held
  begun = held_of (start_bytes a s m)

  counters-after : (cs : List Call) → counters_in (bytes_after begun cs) ≡ (world_after (start_world a) cs).core.state.counters
  counters-after cs =
      ap counters_in (list-after-start a s m accepted four cs)
      ∙ counters-held (world_after (start_world a) cs) (sized-calls (start_world a) cs (start-sized a s m accepted four))

  -- Start puts all at zero.
  pub start-zeroes : counters_in begun ≡ start_counters
  unfolding bytes_after world_after start_world fresh reset_state
  start-zeroes = counters-after []

  -- Channel less stacker, modulo 65,536, is pages released less pages cancelled less pages stacked.
  pub pages-law-in : (cs : List Call) → let p = pages_in begun no_pages cs in pages_out (counters_in (bytes_after begun cs)) ≡ p.released - p.cancelled - p.stacked
  pages-law-in cs =
      let law = rw (started-world a m (start-taken a s m accepted)) at (pages-law a m cs (start-taken a s m accepted)) in
      let told = ap (λ (h : Held). pages_in h no_pages cs) (start-leaves a s m accepted) ∙ pages-told (start_world a) no_pages cs (start-sized a s m accepted four) in
      ap pages_out (counters-after cs) ∙ law.1 ∙ sym (ap (λ (p : Pages). p.released - p.cancelled - p.stacked) told)

  -- Calls lead to all counters that get no 9; and `never-9-in` (Starts) says that they lead to no others.
  pub record ReachedIn (c : Counters) : Type 0 where
    pub calls : List Call
    pub leaves : counters_in (bytes_after begun calls) ≡ c

  pub every-reached-in : (c : Counters) → counters_ok c ≡ true → ReachedIn c
  unfolding fresh reset_state
  every-reached-in c e =
      let r = rw (started-world a m (start-taken a s m accepted)) at (every-reached a m (start-taken a s m accepted) c e) in
      record { calls = r.calls; leaves = counters-after r.calls ∙ ap (λ k. k.state.counters) r.leaves }

-- Numbers 12 and 13 are given exactly where the definitions say, of bytes that stand for a printer.
module _ (s : List ℕ) (m : Stores) where
  number-in : (c : Call) (n : ℕ) (b : Bool) → eqb 9 n ≡ false → eqb (number_in (shown (step (world_at s m) c)).answer) n ≡ b
      → eqb (number_in (call_bytes s m c).answer) n ≡ (readable s && b)
  unfolding call_bytes row_of
  number-in c n b other e = go (readable s)
    where
      go : (t : Bool) → eqb (number_in (cond t (shown (step (world_at s m) c)) (unread (lent c) s m)).answer) n ≡ (t && b)
      go true = e
      go false = rw (number-back (only BadStore 0)) other

  pub twelve-in : (c : Call) → eqb (number_in (call_bytes s m c).answer) 12 ≡ (readable s && gets_twelve (core_at s m) c)
  twelve-in c =
      number-in c 12 _ refl (rw (number-back (step (world_at s m) c).answer, names (world_at s m) c) (twelve-exactly (core_at s m) c))

  pub thirteen-in : (c : Call) → eqb (number_in (call_bytes s m c).answer) 13 ≡ (readable s && gets_thirteen (core_at s m) c)
  thirteen-in c =
      number-in c 13 _ refl (rw (number-back (step (world_at s m) c).answer, names (world_at s m) c) (thirteen-exactly (core_at s m) c))
