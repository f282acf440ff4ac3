-- What a method did to the printer that bytes stand for, it did to the bytes, once its printer is put back into them.
use Prim.Native.Nat.{ℕ}
use mathlib.Core.Path.{◌≡◌, refl, sym, ap, ◌∙◌}
use mathlib.Core.Bool.{Bool, true, false, cond}
use mathlib.Core.List.{List}
use Rattle.numbers.specs.declared.Answer.{Answer}
use Rattle.numbers.specs.declared.Refusal.{Refusal}
use Rattle.numbers.specs.declared.SenseStep.TheVariants.{Keep}
use Rattle.numbers.specs.Numbers.{sense_after}
use Rattle.movement.specs.declared.Motion.{Motion}
use Rattle.movement.specs.Movement.{to_top}
use Rattle.line.specs.Line.{no_causes}
use Rattle.copies.specs.Copies.{with_reference}
use Rattle.counters.specs.declared.Tally.{Tally}
use Rattle.calls.specs.declared.Control.TheVariants.{SenseIo, Clear, Block, Allow, Select}
use Rattle.calls.specs.declared.Load.TheVariants.{TranslateTable, CopyModification, CopyNumber}
use Rattle.calls.specs.declared.State.{State}
use Rattle.calls.specs.Core.{Stores, Core, with_sheet, with_counters, started}
use Rattle.calls.specs.Effects.{Effect, refused, done, moved_core, do_move, written, do_write, standing, completing, loaded, do_load, do_control}
use Rattle.calls.specs.Calls.{tallying, do_tally, Outcome, outcome_of}
use Rattle.printer.specs.declared.Printer.{Printer}
use Rattle.printer.specs.declared.Step.{Step}
use Rattle.printer.specs.Worlds.{core_of, outcome}
use Rattle.state.specs.State.{printer_bytes, state_at, sense_at, core_at, world_at, printer_at, Bytes, readable, OwnSheet, SameArrays, OwnCounters}
use Rattle.state.specs.Host.{left, shown, bytes_in}
use Rattle.state.proofs.Round.{back}

-- An effect that changes nothing of a state but the sheet; one that changes neither array and no counter; and one that changes the counters alone.
abbrev pub SheetAlone : (Core → Effect) → Type 0
SheetAlone f = (k : Core) → (f k).core.state ≡ with_sheet k.state (f k).core.state.sheet

pub record LeavesArrays (f : Core → Effect) : Type 0 where
  pub pairs : (k : Core) → (f k).core.state.copies.pairs ≡ k.state.copies.pairs
  pub fcb : (k : Core) → (f k).core.state.forms.fcb ≡ k.state.forms.fcb
  pub counters : (k : Core) → (f k).core.state.counters ≡ k.state.counters

pub record CountersAlone (f : Core → Effect) : Type 0 where
  pub state : (k : Core) → (f k).core.state ≡ with_counters k.state (f k).core.state.counters
  pub sense : (k : Core) → (f k).sense ≡ Keep

module _ (s : List ℕ) {p : Printer} (d : p ≡ printer_at s) where
  -- what the method did is the effect on what the bytes stand for
  of-bytes : {o : Outcome} (b : List ℕ) (m : Stores) (f : Core → Effect) → o ≡ outcome_of p.sense b (f (core_of p m))
      → o ≡ outcome_of (sense_at s) b (f (core_at s m))
  of-bytes b m f h = h ∙ (λ i. outcome_of (d i).sense b (f (core_of (d i) m)))

  module _ {r : Step} {b : List ℕ} {m' : Stores} (b₀ : List ℕ) (m : Stores) (f : Core → Effect) (h : outcome r b m' ≡ outcome_of p.sense b₀ (f (core_of p m))) where
    pub put_back : {a : Answer} {bytes : List ℕ} → a ≡ r.answer → bytes ≡ printer_bytes r.printer
        → left a b bytes m' ≡ shown (outcome_of (sense_at s) b₀ (f (core_at s m)))
    put_back x z = rw (x, z) (ap shown (of-bytes b₀ m f h))

    -- where the printer is the bytes' own still
    pub left_alone : {a : Answer} → Bytes s → readable s ≡ true → (outcome_of (sense_at s) b₀ (f (core_at s m))).world ≡ world_at s m → a ≡ r.answer
        → left a b s m' ≡ shown (outcome_of (sense_at s) b₀ (f (core_at s m)))
    left_alone low e w x =
        let o = of-bytes b₀ m f h in
        put_back x (sym (back s low e) ∙ ap bytes_in (sym (ap (λ (z : Outcome). z.world) o ∙ w)))

    state-after : r.printer.state ≡ (f (core_at s m)).core.state
    state-after = ap (λ (o : Outcome). o.world.core.state) (of-bytes b₀ m f h)

    pub own-sheet : readable s ≡ true → SheetAlone f → OwnSheet r.printer s
    own-sheet e alone =
        record { read = e; same = state-after ∙ alone (core_at s m) ∙ ap (λ (t : State). with_sheet (state_at s) t.sheet) (sym state-after) }

    pub same-arrays : readable s ≡ true → LeavesArrays f → SameArrays r.printer s
    same-arrays e leaves =
        record {
          read = e;
          pairs = ap (λ (t : State). t.copies.pairs) state-after ∙ leaves.pairs (core_at s m);
          fcb = ap (λ (t : State). t.forms.fcb) state-after ∙ leaves.fcb (core_at s m);
          counters = ap (λ (t : State). t.counters) state-after ∙ leaves.counters (core_at s m);
        }

    pub own-counters : readable s ≡ true → CountersAlone f → OwnCounters r.printer s
    own-counters e alone =
        record {
          read = e;
          same = state-after ∙ alone.state (core_at s m) ∙ ap (λ (t : State). with_counters (state_at s) t.counters) (sym state-after);
          sense = ap (λ (o : Outcome). o.world.sense) (of-bytes b₀ m f h) ∙ ap (sense_after (sense_at s)) (alone.sense (core_at s m));
        }

-- Effects that change the sheet alone: those of a refusal, of Sense and of Clear, of an immediate command and of a write.
pub refused-alone : (n : ℕ) (x : Refusal) → SheetAlone (λ k. refused k n x)
unfolding refused
refused-alone n x k = refl

pub sense-alone : SheetAlone (λ k. do_control k SenseIo)
unfolding do_control
sense-alone k = refl

clear-case : (b : Bool) (k : Core) → let f = cond b (done (moved_core false k to_top) no_causes to_top) (done k no_causes (standing k)) in
    f.core.state ≡ with_sheet k.state f.core.state.sheet
unfolding done
clear-case true k = refl
clear-case false k = refl

pub clear-alone : SheetAlone (λ k. do_control k Clear)
unfolding do_control completing
clear-alone k = clear-case (started k.state.sheet) k

pub move-alone : (m : Motion) → SheetAlone (λ k. do_move k m)
unfolding do_move done
move-alone m k = refl

pub write_alone : (m : Motion) (r : List ℕ) → SheetAlone (λ k. do_write k m r)
unfolding do_write done written
write_alone m r k = refl

-- Effects that change neither array and no counter: those of Block, Allow and Select, and of the loads of a table, of legends and of the copy number.
pub block-leaves : LeavesArrays (λ k. do_control k Block)
unfolding do_control done
block-leaves = record { pairs = λ k. refl; fcb = λ k. refl; counters = λ k. refl }

pub allow-leaves : LeavesArrays (λ k. do_control k Allow)
unfolding do_control done
allow-leaves = record { pairs = λ k. refl; fcb = λ k. refl; counters = λ k. refl }

pub select-leaves : (n : ℕ) → LeavesArrays (λ k. do_control k (Select n))
unfolding do_control done
select-leaves n = record { pairs = λ k. refl; fcb = λ k. refl; counters = λ k. refl }

pub table-leaves : (r : List ℕ) → LeavesArrays (λ k. do_load k TranslateTable r)
unfolding do_load done loaded
table-leaves r = record { pairs = λ k. refl; fcb = λ k. refl; counters = λ k. refl }

pub legends-leave : (r : List ℕ) → LeavesArrays (λ k. do_load k CopyModification r)
unfolding do_load done loaded
legends-leave r = record { pairs = λ k. refl; fcb = λ k. refl; counters = λ k. refl }

pub number-leaves : (r : List ℕ) → LeavesArrays (λ k. do_load k CopyNumber r)
unfolding do_load done loaded with_reference
number-leaves r = record { pairs = λ k. refl; fcb = λ k. refl; counters = λ k. refl }

-- Effects that change the counters alone: those of a report, a cancel and a restart.
pub tally-alone : (t : Tally) → CountersAlone (λ k. do_tally k t)
unfolding do_tally tallying
tally-alone t = record { state = λ k. refl; sense = λ k. refl }
