-- T-01 as a C host sees it: what every answer's 64 bits tell of unprintable positions, whatever bytes were lent.
use Prim.Native.Nat.{ℕ, ◌+◌, ◌/◌}
use mathlib.Core.Path.{◌≡◌, refl, sym, ap, ◌∙◌}
use mathlib.Core.Bool.{Bool, true, false, cond, ◌&&◌, true≢false}
use mathlib.Core.List.{List, []}
use lib.ListN.{length}
use lib.Dec.{eqb}
use Rattle.seq.proofs.Laws.{cond_has}
use Rattle.numbers.specs.declared.Answer.{Answer}
use Rattle.numbers.specs.declared.Sense.{Sense}
use Rattle.numbers.specs.declared.Refusal.TheVariants.{BadStore}
use Rattle.numbers.specs.Numbers.{is_accepted, only}
use Rattle.line.specs.declared.Unprintables.{Unprintables}
use Rattle.line.specs.Line.{told}
use Rattle.line.proofs.UnprintableLaws.{Tells, none-tells}
use Rattle.calls.specs.Core.{Stores}
use Rattle.calls.specs.Calls.{Call, lent, Outcome, step}
use Rattle.calls.specs.Start.{start_refusal, start_outcome}
use Rattle.calls.specs.declared.Asked.{Asked}
use Rattle.calls.proofs.Answers.{names}
use Rattle.calls.proofs.Unprintable.{told_in, is_translating, tells, tells_none, tells-check}
use Rattle.printer.specs.Layout.{blocked_at, sense0_at, state_size}
use Rattle.state.specs.State.{byte_at, sense_at, state_at, core_at, world_at, Bytes, readable}
use Rattle.state.specs.Host.{shown, unread, call_bytes, start_bytes}
use Rattle.state.proofs.Round.{sense-back}
use Rattle.state.proofs.Fields.{number-back}
use Rattle.trestlepip.specs.Host.{number_in, told_by}
use Rattle.trestlepip.proofs.Unpacks.{Unpacks, call-unpacks, start-unpacks}

-- the two fields come back
told_back : {n : ℕ} {a : Answer} → Unpacks n a → told_by n ≡ told_in a
told_back u = rw (u.packs, u.fields.first, u.fields.count)

module _ (s : List ℕ) (m : Stores) (byte : Bytes s) where
  -- Both are 0 or neither is; the first is a position of a line.
  pub tells-in : (c : Call) → Tells (told_by (call_bytes s m c).answer)
  unfolding step
  tells-in c =
      rw (told_back (call-unpacks s m c byte))
      (cond_has (λ (a : Answer). Tells (told_in a)) (readable s) (λ e. tells (core_at s m) c) (λ e. none-tells))

  -- Both are 0 unless the call is a write or a legend load and is accepted.
  pub tells-none-in : (c : Call) → (is_translating c && eqb (number_in (call_bytes s m c).answer) 0) ≡ false → told_by (call_bytes s m c).answer ≡ told []
  unfolding call_bytes step is_accepted
  tells-none-in c = go (readable s) (told_back (call-unpacks s m c byte))
    where
      go : (t : Bool) → (let k = cond t (shown (step (world_at s m) c)) (unread (lent c) s m) in
          told_by k.answer ≡ told_in (cond t (step (world_at s m) c).answer (only BadStore 0))
          → (is_translating c && eqb (number_in k.answer) 0) ≡ false → told_by k.answer ≡ told [])
      go true e h = e ∙ tells_none (core_at s m) c (rw (number-back (step (world_at s m) c).answer, names (world_at s m) c) at h)
      go false e h = e

  -- With Block off, a position that is told is a data check: the byte of sense byte 1 has 80.
  pub tells-check-in : (c : Call) → eqb (told_by (call_bytes s m c).answer).count 0 ≡ false → byte_at s blocked_at ≡ 0
      → byte_at (call_bytes s m c).state (sense0_at + 1) / 0x80 ≡ 1
  unfolding call_bytes state_at sense_at
  tells-check-in c = go (readable s) (told_back (call-unpacks s m c byte))
    where
      go : (t : Bool) → (let k = cond t (shown (step (world_at s m) c)) (unread (lent c) s m) in
          told_by k.answer ≡ told_in (cond t (step (world_at s m) c).answer (only BadStore 0))
          → eqb (told_by k.answer).count 0 ≡ false → byte_at s blocked_at ≡ 0 → byte_at k.state (sense0_at + 1) / 0x80 ≡ 1)
      go true e h b =
          let o = step (world_at s m) c in
          let count : eqb o.answer.count 0 ≡ false = ap (λ (u : Unprintables). eqb u.count 0) (sym e) ∙ h in
          ap (λ (q : Sense). q.b1 / 0x80) (sense-back o.world.core.state o.world.sense)
          ∙ tells-check (world_at s m) c count (ap (λ (n : ℕ). eqb n 1) b)
      go false e h b = absurd (true≢false (ap (λ (u : Unprintables). eqb u.count 0) (sym e) ∙ h))

-- Start tells none.
pub start-tells-none : (a : Asked) (s : List ℕ) (m : Stores) → told_by (start_bytes a s m).answer ≡ told []
unfolding start_outcome
start-tells-none a s m =
    told_back (start-unpacks a s m)
    ∙ cond_has (λ (x : Answer). told_in x ≡ told []) (eqb (length s) state_size)
    (λ e. cond_has (λ (o : Outcome). told_in o.answer ≡ told []) (is_accepted (start_refusal a m)) (λ t. refl) (λ t. refl)) (λ e. refl)
