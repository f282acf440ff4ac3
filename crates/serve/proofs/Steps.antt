-- What a public call's contract comes to: bytes and stores that a printer can have get its step, any others get 9 and are left; an accepted call has done
-- what `perform` says, a refused one what its row says.
use Prim.Native.Nat.{ℕ, ◌^◌, ◌<◌}
use mathlib.Core.Path.{◌≡◌, refl, sym, ap, ◌∙◌}
use mathlib.Core.Bool.{Bool, true, false, cond, ◌&&◌}
use mathlib.Core.List.{List, []}
use lib.Dec.{eqb}
use lib.ListN.{length}
use Rattle.std.specs.Prelude.{Result, Ok, Err}
use Rattle.numbers.specs.declared.Answer.{Answer}
use Rattle.numbers.specs.declared.Refusal.{Refusal}
use Rattle.numbers.specs.declared.Refusal.TheVariants.{BadStore}
use Rattle.numbers.specs.Numbers.{row_of, is_accepted, only}
use Rattle.form.specs.declared.Layout.{Layout}
use Rattle.calls.specs.Core.{Stores, World, laid_out}
use Rattle.calls.specs.Contents.{core_ok}
use Rattle.calls.specs.Effects.{Effect, refused}
use Rattle.calls.specs.Calls.{Call, refusal_of, perform, size_of, lent, Outcome, outcome_of, step}
use Rattle.calls.specs.Start.{start_outcome}
use Rattle.calls.specs.declared.Asked.{Asked}
use Rattle.calls.proofs.Refused.{refused-effect, accepted-effect, nine}
use Rattle.refusals.specs.Verdict.{verdict}
use Rattle.refusals.proofs.Laws.{accepts, refuses}
use Rattle.printer.specs.declared.Printer.{Printer}
use Rattle.printer.specs.declared.Step.{Step}
use Rattle.printer.specs.Layout.{reference_at, state_size}
use Rattle.printer.specs.Worlds.{core_of, outcome}
use Rattle.state.specs.State.{state_at, core_at, world_at, printer_at, Bytes, readable}
use Rattle.state.specs.Contents.{sound_bytes}
use Rattle.state.specs.Packed.{packed}
use Rattle.state.specs.Host.{Called, called, left, shown, unread, call_bytes, start_bytes}
use Rattle.state.proofs.Fields.{fields}
use Rattle.state.proofs.Fitting.{step_fits, start_fits}
use Rattle.state.proofs.Round.{back}
use Rattle.state.proofs.Sound.{sound-read, sound-size}
use Rattle.serve.specs.Served.{Judged}
use Rattle.serve.proofs.Put.{left_alone}

module _ (w : World) (c : Call) {v : Result Unit Refusal} (given : v ≡ verdict (refusal_of w.core c)) {o : Outcome} where
  pub step-accepted : v ≡ Ok tt → o ≡ outcome_of w.sense (lent c) (perform w.core c) → o ≡ step w c
  unfolding step
  step-accepted e h = h ∙ ap (λ (f : Effect). outcome_of w.sense (lent c) f) (sym (accepted-effect w.core c (accepts _ given e)))

  -- n is the count that the code takes for the record's: it need not be that where the row does not show it
  pub step-refused : {x : Refusal} (n : ℕ) → v ≡ Err x → row_of n x ≡ row_of (size_of c) x → o ≡ outcome_of w.sense (lent c) (refused w.core n x) → o ≡ step w c
  unfolding step refused
  step-refused n e r h = let y = refuses given e in rw (refused-effect w.core c y.1, y.0) (rw (← r) h)

-- A refusal that keeps the sense: nothing is put back.
pub step-left : {s : List ℕ} {p : Printer} (d : p ≡ printer_at s) (m : Stores) (c : Call) {v : Result Unit Refusal} {x : Refusal} {r : Step}
    → v ≡ verdict (refusal_of (core_at s m) c) → v ≡ Err x → row_of 0 x ≡ row_of (size_of c) x
    → outcome r (lent c) m ≡ outcome_of p.sense (lent c) (refused (core_of p m) 0 x) → Bytes s → readable s ≡ true
    → (is_accepted (refusal_of (core_at s m) c) ≡ false → (step (world_at s m) c).world ≡ world_at s m)
    → left r.answer (lent c) s m ≡ shown (step (world_at s m) c)
step-left {s} d m c {x = x} given e row h low read keeps =
    let o = step-refused (world_at s m) c given 0 e row refl in
    left_alone s d (lent c) m (λ k. refused k 0 x) h low read (ap (λ (z : Outcome). z.world) o ∙ keeps (refuses given e).1) refl ∙ ap shown o

module _ (s : List ℕ) (m : Stores) (c : Call) where
  nine-read : (t : Bool) → Bytes s → readable s ≡ t → (t && core_ok (core_at s m)) ≡ false
      → cond t (shown (step (world_at s m) c)) (unread (lent c) s m) ≡ unread (lent c) s m
  nine-read true low e n = ap shown (nine (world_at s m) c n) ∙ ap (λ (l : List ℕ). unread (lent c) l m) (back s low e)
  nine-read false low e n = refl

  -- bytes that no printer has, or stores that none has: 9, and nothing is written
  pub call-unsound : {answer : ℕ} → Bytes s → sound_bytes s m ≡ false → answer ≡ packed (only BadStore 0) → called answer (lent c) s m ≡ call_bytes s m c
  unfolding call_bytes sound_bytes
  call-unsound low n a = rw a (sym (nine-read (readable s) low refl n))

  -- bytes and stores that a printer can have: its step
  pub call-sound : {answer : ℕ} (a : Answer) {buffer bytes : List ℕ} {m' : Stores} → sound_bytes s m ≡ true
      → left a buffer bytes m' ≡ shown (step (world_at s m) c) → answer ≡ packed a → called answer buffer bytes m' ≡ call_bytes s m c
  unfolding call_bytes
  call-sound a e h p = rw (p, sound-read s m e) h

  -- and 64 bits hold its answer
  pub call-room : (a : Answer) {buffer bytes : List ℕ} {m' : Stores} → Bytes s
      → left a buffer bytes m' ≡ shown (step (world_at s m) c) → packed a < 2 ^ 64
  unfolding state_at
  call-room a low h = rw (ap (λ (k : Called). k.answer) h) (fields _ (step_fits (world_at s m) c (low reference_at))).above

-- what judging found good stands for a printer, and is as long as a state
pub judged : {s : List ℕ} {m : Stores} {w : Layout} → sound_bytes s m ≡ true → w ≡ laid_out (state_at s) → Judged s m w
judged {s} {m} e l = record { bytes = record { size = sound-size s m e; read = sound-read s m e }; sound = e; layout = l }

-- Start's: 64 bits hold its answer.
pub start-room : (a : Asked) (m : Stores) (x : Answer) {bytes : List ℕ} {m' : Stores} → left x [] bytes m' ≡ shown (start_outcome a m) → packed x < 2 ^ 64
start-room a m x h = rw (ap (λ (k : Called). k.answer) h) (fields _ (start_fits a m)).above

module _ (a : Asked) (s : List ℕ) (m : Stores) where
  pub start-with-room : {answer : ℕ} (x : Answer) {bytes : List ℕ} {m' : Stores} → length s ≡ state_size → left x [] bytes m' ≡ shown (start_outcome a m)
      → answer ≡ packed x → called answer [] bytes m' ≡ start_bytes a s m
  unfolding start_bytes
  start-with-room x e h p = rw (p, ap (λ (n : ℕ). eqb n state_size) e) h

  pub start-without-room : {answer : ℕ} → eqb (length s) state_size ≡ false → answer ≡ packed (only BadStore 0) → called answer [] s m ≡ start_bytes a s m
  unfolding start_bytes
  start-without-room e p = rw (e, p)
