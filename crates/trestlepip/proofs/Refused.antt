-- Refusals as a C host sees them: 9 is given exactly where no printer has the bytes, and a refused call writes nothing except the sense that the table
-- gives.
use Prim.Native.Nat.{ℕ}
use mathlib.Core.Path.{◌≡◌, refl, ap, ◌∙◌}
use mathlib.Core.Bool.{Bool, true, false, cond, not, ◌&&◌}
use mathlib.Core.List.{List, [], ◌∷◌}
use lib.Dec.{eqb}
use Rattle.seq.specs.Words.{listed}
use Rattle.numbers.specs.declared.Refusal.{Refusal}
use Rattle.numbers.specs.declared.Refusal.TheVariants.{BadStore}
use Rattle.numbers.specs.Numbers.{sense_after, row_of, number_of, is_accepted, only}
use Rattle.numbers.proofs.Laws.{accepted-is}
use Rattle.calls.specs.Core.{Stores}
use Rattle.calls.specs.Contents.{core_ok}
use Rattle.calls.specs.Calls.{Call, refusal_of, size_of, lent, Outcome, step}
use Rattle.calls.proofs.Refused.{refused-step, refused-keeps, nine, no_9}
use Rattle.calls.proofs.Answers.{names}
use Rattle.state.specs.State.{bytes_of, sense_at, core_at, world_at, Bytes, readable}
use Rattle.state.specs.Contents.{sound_bytes}
use Rattle.state.specs.Packed.{packed}
use Rattle.state.specs.Host.{Called, held, held_of, bytes_in, shown, unread, call_bytes}
use Rattle.state.proofs.Round.{back, sense-back}
use Rattle.state.proofs.Sound.{sound-read, sound-good}
use Rattle.state.proofs.Fields.{number-back}
use Rattle.trestlepip.specs.Host.{number_in, but_sense}

-- The refusal that a call over bytes gets.
abbrev pub refusal_at : List ℕ → Stores → Call → Refusal
refusal_at s m c = cond (readable s) (refusal_of (core_at s m) c) BadStore

-- A call over s and m that was refused by x, beside what it left.
pub record Untouched (s : List ℕ) (m : Stores) (c : Call) (x : Refusal) (k : Called) : Type 0 where
  pub answer : k.answer ≡ packed (only x (row_of (size_of c) x).status)
  pub buffer : k.buffer ≡ lent c
  pub stores : k.stores ≡ m
  pub states : but_sense (held_of k) ≡ but_sense (held s m)
  -- the five sense bytes are the table's, and stay unless the number is 1, 3 or 5
  pub sense : sense_at k.state ≡ sense_after (sense_at s) (row_of (size_of c) x).sense
  pub kept : listed (1 ∷ 3 ∷ 5 ∷ []) (number_in k.answer) ≡ false → k.state ≡ s

-- Whatever bytes s and stores m a host lends.
module _ (s : List ℕ) (m : Stores) (low : Bytes s) where
  -- bytes that no printer has, or stores that none has: 9 from every call, and nothing is written
  pub nine-unsound : (c : Call) → sound_bytes s m ≡ false → call_bytes s m c ≡ unread (lent c) s m
  unfolding call_bytes sound_bytes
  nine-unsound c n = go (readable s) refl n
    where
      go : (t : Bool) → readable s ≡ t → (t && core_ok (core_at s m)) ≡ false → cond t (shown (step (world_at s m) c)) (unread (lent c) s m) ≡ unread (lent c) s m
      go true e n = ap shown (nine (world_at s m) c n) ∙ ap (λ (l : List ℕ). unread (lent c) l m) (back s low e)
      go false e n = refl

  -- and 9 for nothing else
  pub nine-exactly : (c : Call) → eqb (number_in (call_bytes s m c).answer) 9 ≡ not (sound_bytes s m)
  unfolding call_bytes row_of
  nine-exactly c = go (sound_bytes s m) refl
    where
      go : (t : Bool) → sound_bytes s m ≡ t → eqb (number_in (call_bytes s m c).answer) 9 ≡ not t
      go true e =
          let w = world_at s m in
          rw (sound-read s m e, number-back (step w c).answer, names w c) (no_9 w.core c (sound-good s m e))
      go false e = rw (nine-unsound c e, number-back (only BadStore 0))

  -- A refused call.
  refused-read : (c : Call) → readable s ≡ true → is_accepted (refusal_of (core_at s m) c) ≡ false
      → Untouched s m c (refusal_of (core_at s m) c) (shown (step (world_at s m) c))
  unfolding bytes_of
  refused-read c r e =
      let w = world_at s m in
      let o = step w c in
      let h = refused-step w c e in
      record {
        answer = ap (λ (x : Outcome). packed x.answer) h;
        buffer = ap (λ (x : Outcome). x.buffer) h;
        stores = ap (λ (x : Outcome). x.world.core.stores) h;
        states = ap (λ (x : Outcome). but_sense (held (bytes_in x.world) m)) h ∙ ap (λ (l : List ℕ). but_sense (held l m)) (back s low r);
        sense = sense-back o.world.core.state o.world.sense ∙ ap (λ (x : Outcome). x.world.sense) h;
        kept = λ n. ap bytes_in (refused-keeps w c e (rw (number-back o.answer, names w c) at n)) ∙ back s low r;
      }

  pub refused-leaves : (c : Call) → (number_in (call_bytes s m c).answer ≡ 0 → ⊥) → Untouched s m c (refusal_at s m c) (call_bytes s m c)
  unfolding call_bytes row_of
  refused-leaves c n = go (readable s) (is_accepted (refusal_of (core_at s m) c)) refl refl n
    where
      go : (t u : Bool) → readable s ≡ t → is_accepted (refusal_of (core_at s m) c) ≡ u
          → (let k = cond t (shown (step (world_at s m) c)) (unread (lent c) s m) in
          (number_in k.answer ≡ 0 → ⊥) → Untouched s m c (cond t (refusal_of (core_at s m) c) BadStore) k)
      go true true r e n =
          let w = world_at s m in
          absurd (n (number-back (step w c).answer ∙ ap number_of (names w c ∙ accepted-is _ e)))
      go true false r e n = refused-read c r e
      go false u r e n = record { answer = refl; buffer = refl; stores = refl; states = refl; sense = refl; kept = λ h. refl }
