-- The user's third demand. Lists of calls with the same deeds since the latest finished reset leave printers that answer and print alike; their Sense replies
-- differ in five bytes at most.
use Prim.Native.Nat.{ℕ}
use mathlib.Core.Path.{◌≡◌, refl, ap, ◌∙◌}
use mathlib.Core.Bool.{true}
use mathlib.Core.List.{List, [], ◌∷◌}
use lib.ListN.{take, drop}
use Rattle.numbers.specs.Sizes.{sense_size}
use Rattle.numbers.specs.Numbers.{is_accepted}
use Rattle.calls.specs.declared.Fixed.{Fixed}
use Rattle.calls.specs.Core.{Stores, Core, World}
use Rattle.calls.specs.Commands.{issued, codes, look_up, decode}
use Rattle.calls.specs.Reset.{fresh, sense_bytes}
use Rattle.calls.specs.Effects.{Effect, refused, do_control, do_command}
use Rattle.calls.specs.Calls.{Call, compose, do_compose, perform, effect, over, step, command, lent}
use Rattle.calls.specs.Start.{fixed_by, start_refusal, start_kept, start_world, start_outcome}
use Rattle.calls.specs.declared.Asked.{Asked}
use Rattle.calls.specs.Lists.{world_after, gives, since_reset}
use Rattle.calls.proofs.Accepted.{started-world}
use Rattle.calls.proofs.Refused.{by-outcome}
use Rattle.calls.proofs.SinceReset.{tracked}

-- The sense has no part in what calls leave. Where it has none in what an accepted call puts over its buffer, it has none in the buffer.
pub after-alike : (v w : World) (cs : List Call) → v.core ≡ w.core → (world_after v cs).core ≡ (world_after w cs).core
unfolding world_after step
after-alike v w [] e = e
after-alike v w (c ∷ cs) e = after-alike (step v c).world (step w c).world cs (ap (λ (k : Core). (effect k c).core) e)

buffer-alike : (v w : World) (c : Call) (f : List ℕ → List ℕ) → v.core ≡ w.core
    → f (over ((perform v.core c).front v.sense) (lent c)) ≡ f (over ((perform v.core c).front w.sense) (lent c))
    → f (step v c).buffer ≡ f (step w c).buffer
unfolding step refused
buffer-alike v w c f e h =
    by-outcome (λ (x : Effect). f (over (x.front v.sense) (lent c)) ≡ f (over (x.front w.sense) (lent c))) v.core c (λ a. h) (λ a. refl)
    ∙ ap (λ (k : Core). f (over ((effect k c).front w.sense) (lent c))) e

compose-alike : (v w : World) (n : ℕ) (out : List ℕ) → v.core ≡ w.core → (step v (compose n out)).buffer ≡ (step w (compose n out)).buffer
unfolding perform do_compose
compose-alike v w n out e = buffer-alike v w (compose n out) (λ l. l) e refl

-- Two lists of calls, on printers v and w.
pub record Alike (v w : World) (xs ys : List Call) : Type 0 where
  -- what counts got equal answers, and each page that one of them completed has equal copies under equal numbers and marks
  pub gave : (since_reset v xs).gave ≡ (since_reset w ys).gave
  -- the printers differ in their sense at most, so that the four page counters are equal too (T-02)
  pub core : (world_after v xs).core ≡ (world_after w ys).core
  pub counters : (world_after v xs).core.state.counters ≡ (world_after w ys).core.state.counters
  -- whatever calls follow, alike on both, they get equal answers, and each page that they complete has equal copies, numbers and marks
  pub later : (zs : List Call) → gives (world_after v xs).core zs ≡ gives (world_after w ys).core zs
  -- and a Compose after them writes the same bytes
  pub composes : (zs : List Call) (n : ℕ) (out : List ℕ)
      → (step (world_after (world_after v xs) zs) (compose n out)).buffer ≡ (step (world_after (world_after w ys) zs) (compose n out)).buffer

alike : (f : Fixed) (v w : World) (xs ys : List Call) → v.core ≡ fresh f start_kept → w.core ≡ fresh f start_kept
    → (since_reset v xs).kept ≡ (since_reset w ys).kept → (since_reset v xs).deeds ≡ (since_reset w ys).deeds → Alike v w xs ys
alike f v w xs ys ev ew p q =
    let tv = tracked f start_kept v xs ev in
    let tw = tracked f start_kept w ys ew in
    let e : (world_after v xs).core ≡ (world_after w ys).core = rw (tv.core, tw.core, p, q) in
    record {
      gave = rw (tv.gave, tw.gave, p, q);
      core = e;
      counters = ap (λ (k : Core). k.state.counters) e;
      later = λ zs. ap (λ (k : Core). gives k zs) e;
      composes = λ zs n out. compose-alike _ _ n out (after-alike _ _ zs e);
    }

-- Demand 3: from two accepted Starts with the same form, pitches and way of skipping, over whatever stores.
pub demand-3 : (a : Asked) (m m' : Stores) (xs ys : List Call)
    → is_accepted (start_refusal a m) ≡ true
    → is_accepted (start_refusal a m') ≡ true
    → (let v = (start_outcome a m).world in let w = (start_outcome a m').world in
    (since_reset v xs).kept ≡ (since_reset w ys).kept
    → (since_reset v xs).deeds ≡ (since_reset w ys).deeds
    → Alike v w xs ys)
unfolding start_world
demand-3 a m m' xs ys e e' p q =
    alike (fixed_by a) (start_outcome a m).world (start_outcome a m').world xs ys
    (ap (λ (w : World). w.core) (started-world a m e)) (ap (λ (w : World). w.core) (started-world a m' e')) p q

-- Sense itself, on two printers that differ in their sense at most: the answers are equal, and the buffers except in bytes 0, 1, 2, 22 and 23.
abbrev sense_io : List ℕ → List ℕ → Call
sense_io r reply = command (issued 0x04 r reply)

abbrev middle : List ℕ → List ℕ
middle l = take 19 (drop 3 l)

abbrev after : List ℕ → List ℕ
after l = drop sense_size l

pub record SenseAlike (v w : World) (r reply : List ℕ) : Type 0 where
  pub answer : (step v (sense_io r reply)).answer ≡ (step w (sense_io r reply)).answer
  pub middle : middle (step v (sense_io r reply)).buffer ≡ middle (step w (sense_io r reply)).buffer
  pub after : after (step v (sense_io r reply)).buffer ≡ after (step w (sense_io r reply)).buffer

pub sense-alike : (v w : World) (r reply : List ℕ) → v.core ≡ w.core → SenseAlike v w r reply
unfolding step perform decode codes look_up do_command do_control sense_bytes
sense-alike v w r reply e =
    record {
      answer = ap (λ (k : Core). (effect k (sense_io r reply)).answer) e;
      middle = buffer-alike v w (sense_io r reply) (λ l. middle l) e refl;
      after = buffer-alike v w (sense_io r reply) (λ l. after l) e refl;
    }
