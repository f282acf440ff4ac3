-- T-03 as a C host sees it, after an accepted Start: a mark of the page store stays through every call but an accepted Release, and there is no mark but 0
-- and 1.
use Prim.Native.Nat.{ℕ}
use mathlib.Core.Path.{◌≡◌, sym, ap, ◌∙◌}
use mathlib.Core.Bool.{true, false}
use mathlib.Core.List.{List}
use lib.ListN.{length}
use lib.Dec.{eqb}
use Rattle.numbers.specs.Numbers.{is_accepted}
use Rattle.line.specs.Cells.{marks_ok}
use Rattle.calls.specs.Core.{Stores}
use Rattle.calls.specs.Calls.{Call, release, refusal_of, step}
use Rattle.calls.specs.Start.{start_world}
use Rattle.calls.specs.declared.Asked.{Asked}
use Rattle.calls.specs.Lists.{world_after}
use Rattle.calls.specs.Marks.{cell_in}
use Rattle.calls.proofs.Accepted.{started-world}
use Rattle.calls.proofs.Answers.{names}
use Rattle.calls.proofs.Marks.{mark-stays, only-marks}
use Rattle.state.specs.Host.{Called, Held, held_of, call_on, bytes_after, start_bytes}
use Rattle.state.proofs.Fields.{number-back}
use Rattle.trestlepip.specs.Host.{number_in}
use Rattle.trestlepip.proofs.Starts.{start-taken, list-after-start, call-after-start}

module _ (a : Asked) (s : List ℕ) (m : Stores) (accepted : number_in (start_bytes a s m).answer ≡ 0) (four : length a.pitches ≡ 4) (cs : List Call) where
  abbrev now : Held
  now = bytes_after (held_of (start_bytes a s m)) cs

  same-page : now.stores.page ≡ (world_after (start_world a) cs).core.stores.page
  same-page = ap (λ (h : Held). h.stores.page) (list-after-start a s m accepted four cs)

  pub mark-stays-in : (c : Call) (n : ℕ) → (c ≡ release → eqb (number_in (call_on now c).answer) 0 ≡ false) → (cell_in now.stores.page n).mark ≡ 1
      → (cell_in (call_on now c).stores.page n).mark ≡ 1
  unfolding step is_accepted
  mark-stays-in c n r h =
      let w = world_after (start_world a) cs in
      let call = call-after-start a s m accepted four cs c in
      let told : eqb (number_in (call_on now c).answer) 0 ≡ is_accepted (refusal_of w.core c) =
      ap (λ (k : Called). eqb (number_in k.answer) 0) call ∙ ap (λ (i : ℕ). eqb i 0) (number-back (step w c).answer) ∙ ap is_accepted (names w c) in
      let stays = rw (started-world a m (start-taken a s m accepted)) at (mark-stays a m cs c n (start-taken a s m accepted)) in
      ap (λ (k : Called). (cell_in k.stores.page n).mark) call ∙ stays (λ e. sym told ∙ r e) (ap (λ (p : List ℕ). (cell_in p n).mark) (sym same-page) ∙ h)

  pub only-marks-in : marks_ok now.stores.page ≡ true
  only-marks-in = ap marks_ok same-page ∙ (rw (started-world a m (start-taken a s m accepted)) at (only-marks a m cs (start-taken a s m accepted)))
