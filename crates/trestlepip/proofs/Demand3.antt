-- The user's third demand, over bytes: two hosts that noted the same since the latest finished reset were answered alike, printed alike, and hold the
-- same except for the sense.
use Prim.Native.Nat.{ℕ}
use mathlib.Core.Path.{◌≡◌, sym, ap, ◌∙◌}
use mathlib.Core.Bool.{true}
use mathlib.Core.List.{List, [], ◌∷◌, reverse, reverse-reverse}
use native.Mathlib.Omega.{arith}
use lib.ListN.{length}
use Rattle.numbers.specs.Numbers.{no_sense, is_accepted}
use Rattle.calls.specs.Core.{Stores, Core, World}
use Rattle.calls.specs.Reset.{Kept}
use Rattle.calls.specs.Calls.{Call, compose, effect, step}
use Rattle.calls.specs.Start.{start_refusal, start_world}
use Rattle.calls.specs.declared.Asked.{Asked}
use Rattle.calls.specs.Lists.{world_after, since_reset}
use Rattle.calls.specs.Premises.{Sized}
use Rattle.calls.proofs.Accepted.{started-world}
use Rattle.calls.proofs.Invariants.{sized-calls}
use Rattle.calls.proofs.Demand3.{after-alike, Alike, demand-3}
use Rattle.state.specs.State.{bytes_of}
use Rattle.state.specs.Packed.{packed}
use Rattle.state.specs.Host.{Called, Held, held_of, call_on, bytes_after, held_in, shown, start_bytes}
use Rattle.trestlepip.specs.Host.{number_in, counters_in, but_sense}
use Rattle.trestlepip.specs.Notes.{Noted, deeds_in, notes}
use Rattle.trestlepip.proofs.Steps.{counters-held, list_steps, call-after}
use Rattle.trestlepip.proofs.Starts.{start-taken, start-leaves, start-sized}
use Rattle.trestlepip.proofs.Notes.{answers_in, packed_in, Ends, Told, none, next, notes-agree}

-- What two hosts hold, a and b.
pub record HeldAlike (a b : Held) : Type 0 where
  -- whatever calls follow, alike on both, each gets the same answer
  pub answers : (zs : List Call) (c : Call) → (call_on (bytes_after a zs) c).answer ≡ (call_on (bytes_after b zs) c).answer
  -- a Compose after them writes the same bytes
  pub composes : (zs : List Call) (n : ℕ) (out : List ℕ) → (call_on (bytes_after a zs) (compose n out)).buffer ≡ (call_on (bytes_after b zs) (compose n out)).buffer
  -- and all that is held is equal except for the sense
  pub states : (zs : List Call) → but_sense (bytes_after a zs) ≡ but_sense (bytes_after b zs)
  pub stores : (zs : List Call) → (bytes_after a zs).stores ≡ (bytes_after b zs).stores
  -- so that the four page counters are equal too (T-02)
  pub counters : (zs : List Call) → counters_in (bytes_after a zs) ≡ counters_in (bytes_after b zs)

-- Two noted calls. Where they completed a page, a Compose right after them shows each of its copies: the answer has its number and mark, the buffer its
-- cells.
pub record SameNoted (x y : Noted) : Type 0 where
  pub answer : x.answer ≡ y.answer
  pub copies : (n : ℕ) (out : List ℕ) → (call_on x.after (compose n out)).answer ≡ (call_on y.after (compose n out)).answer
  pub cells : (n : ℕ) (out : List ℕ) → (call_on x.after (compose n out)).buffer ≡ (call_on y.after (compose n out)).buffer
  pub after : HeldAlike x.after y.after

-- All noted calls of two hosts, one beside the other.
pub data Pairwise : List Noted → List Noted → Type 0 where
  done : Pairwise [] []
  both : {x y : Noted} {l k : List Noted} → SameNoted x y → Pairwise l k → Pairwise (x ∷ l) (y ∷ k)

-- Lists of calls on what two accepted Starts left, a and b.
pub record HostsAlike (a b : Held) (xs ys : List Call) : Type 0 where
  -- the calls that count since the latest finished reset
  pub noted : Pairwise (notes a xs).calls (notes b ys).calls
  -- and whatever calls follow
  pub later : HeldAlike (bytes_after a xs) (bytes_after b ys)

module _ (v w : World) (z : Sized v.core.state) (e : v.core ≡ w.core)
    (printed : (zs : List Call) (n : ℕ) (out : List ℕ) → (step (world_after v zs) (compose n out)).buffer ≡ (step (world_after w zs) (compose n out)).buffer) where
  -- what the one gives and what the other gives, of what follows
  both-give : {A : Type 0} (f : Called → A) (zs : List Call) (c : Call) → f (shown (step (world_after v zs) c)) ≡ f (shown (step (world_after w zs) c))
      → f (call_on (bytes_after (held_in v) zs) c) ≡ f (call_on (bytes_after (held_in w) zs) c)
  both-give f zs c h = ap f (call-after v zs c z) ∙ h ∙ sym (ap f (call-after w zs c (rw (← e) z)))

  both_hold : {A : Type 0} (f : Held → A) (zs : List Call) → f (held_in (world_after v zs)) ≡ f (held_in (world_after w zs))
      → f (bytes_after (held_in v) zs) ≡ f (bytes_after (held_in w) zs)
  both_hold f zs h = ap f (list_steps v zs z) ∙ h ∙ sym (ap f (list_steps w zs (rw (← e) z)))

  held-alike : HeldAlike (held_in v) (held_in w)
  unfolding step bytes_of
  held-alike =
      record {
        answers = λ zs c. both-give (λ (k : Called). k.answer) zs c (ap (λ (k : Core). packed (effect k c).answer) (after-alike v w zs e));
        composes = λ zs n out. both-give (λ (k : Called). k.buffer) zs (compose n out) (printed zs n out);
        states =
            λ zs. both_hold but_sense zs
            (ap (λ (k : Core). but_sense (held_in (record { core = k; sense = no_sense }))) (after-alike v w zs e));
        stores = λ zs. both_hold (λ (h : Held). h.stores) zs (ap (λ (k : Core). k.stores) (after-alike v w zs e));
        counters =
            λ zs. both_hold counters_in zs
            (counters-held (world_after v zs) (sized-calls v zs z)
            ∙ ap (λ (k : Core). k.state.counters) (after-alike v w zs e)
            ∙ sym (counters-held (world_after w zs) (sized-calls w zs (rw (← e) z))));
      }

-- An accepted Start leaves the same to every host, so that both lists are made on the same printer.
module _ (a : Asked) (m : Stores) (e : is_accepted (start_refusal a m) ≡ true) (z : Sized (start_world a).core.state) where
  alike : (xs ys : List Call) → (since_reset (start_world a) xs).kept ≡ (since_reset (start_world a) ys).kept
      → (since_reset (start_world a) xs).deeds ≡ (since_reset (start_world a) ys).deeds → Alike (start_world a) (start_world a) xs ys
  alike xs ys = rw (started-world a m e) at (demand-3 a m m xs ys e e)

  left-alike : (xs ys : List Call) → (since_reset (start_world a) xs).kept ≡ (since_reset (start_world a) ys).kept
      → (since_reset (start_world a) xs).deeds ≡ (since_reset (start_world a) ys).deeds
      → HeldAlike (held_in (world_after (start_world a) xs)) (held_in (world_after (start_world a) ys))
  left-alike xs ys p q =
      let d = alike xs ys p q in
      held-alike (world_after (start_world a) xs) (world_after (start_world a) ys) (sized-calls (start_world a) xs z) d.core d.composes

  same_noted : {x y : Noted} {l k : List Noted} {b c : Kept} (xs ys : List Call) → b ≡ c → deeds_in (x ∷ l) ≡ deeds_in (y ∷ k) → x.answer ≡ y.answer
      → Ends (start_world a) xs b x l → Ends (start_world a) ys c y k → SameNoted x y
  unfolding bytes_after
  same_noted {x} {y} xs ys p q r f g =
      let d = left-alike xs ys (f.keeps ∙ p ∙ sym g.keeps) (f.deeds ∙ ap reverse q ∙ sym g.deeds) in
      let h : HeldAlike x.after y.after = rw (f.after, g.after) d in
      record { answer = r; copies = λ n out. h.answers [] (compose n out); cells = λ n out. h.composes [] n out; after = h }

  pairwise : {b c : Kept} {l k : List Noted} → b ≡ c → deeds_in l ≡ deeds_in k → answers_in l ≡ answers_in k → Told (start_world a) b l → Told (start_world a) c k
      → Pairwise l k
  pairwise p q r none none = done
  pairwise p q r none (next ys g t) = absurd (let h : ◌≡◌ {A = ℕ} 0 1 = cc in omega arith)
  pairwise p q r (next xs f s) none = absurd (let h : ◌≡◌ {A = ℕ} 0 1 = cc in omega arith)
  pairwise p q r (next xs f s) (next ys g t) = both (same_noted xs ys p q (cc) f g) (pairwise p (cc) (cc) s t)

-- Demand 3: from two accepted Starts with the same form, pitches and way of skipping, over whatever bytes and stores, lists of calls with the same deeds since the latest
-- finished reset, which kept the same. trestlepip_start passes four pitches.
pub demand-3-over-bytes : (a : Asked) (s s' : List ℕ) (m m' : Stores) (xs ys : List Call) → length a.pitches ≡ 4
    → number_in (start_bytes a s m).answer ≡ 0
    → number_in (start_bytes a s' m').answer ≡ 0
    → (let h = held_of (start_bytes a s m) in let h' = held_of (start_bytes a s' m') in
    (notes h xs).kept ≡ (notes h' ys).kept
    → deeds_in (notes h xs).calls ≡ deeds_in (notes h' ys).calls
    → HostsAlike h h' xs ys)
demand-3-over-bytes a s s' m m' xs ys four e e' =
    let w = start_world a in
    let z = start-sized a s m e four in
    let t = start-taken a s m e in
    rw (start-leaves a s m e, start-leaves a s' m' e')
    (λ p q.
    let x = notes-agree a xs z in
    let y = notes-agree a ys z in
    let kept = sym x.kept ∙ p ∙ y.kept in
    let deeds = sym x.deeds ∙ ap reverse q ∙ y.deeds in
    let answers = x.answers ∙ ap packed_in (alike a m t z xs ys kept deeds).gave ∙ sym y.answers in
    record {
      noted = pairwise a m t z p q (sym (reverse-reverse _) ∙ ap reverse answers ∙ reverse-reverse _) x.told y.told;
      later = rw (list_steps w xs z, list_steps w ys z) (left-alike a m t z xs ys kept deeds);
    })
