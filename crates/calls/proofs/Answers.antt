-- Document 01, "Calls": what each field of an answer says of the call that it answers, and how long Sense's reply is.
use Prim.Native.Nat.{ℕ}
use mathlib.Core.Path.{◌≡◌, refl, sym, ap, ◌∙◌}
use mathlib.Core.Bool.{Bool, true, false, cond, not, ◌&&◌, true≢false, and-false}
use mathlib.Core.List.{List}
use lib.ListN.{length}
use lib.Dec.{eqb}
use Rattle.seq.proofs.Laws.{cond_has}
use Rattle.numbers.specs.Sizes.{sense_size}
use Rattle.numbers.specs.declared.Sense.{Sense}
use Rattle.numbers.specs.declared.Refusal.TheVariants.{Accepted}
use Rattle.numbers.specs.declared.SenseStep.{SenseStep}
use Rattle.numbers.specs.declared.SenseStep.TheVariants.{Keep}
use Rattle.numbers.specs.Numbers.{is_accepted}
use Rattle.numbers.proofs.Laws.{accepted-is, is_anew}
use Rattle.movement.specs.declared.Moved.{Moved}
use Rattle.movement.specs.Movement.{still, to_top}
use Rattle.line.specs.declared.Causes.{Causes}
use Rattle.line.specs.Line.{no_causes, or_unmatched}
use Rattle.calls.specs.declared.Sheet.{Sheet}
use Rattle.calls.specs.declared.State.{State}
use Rattle.calls.specs.declared.Load.{Load}
use Rattle.calls.specs.declared.Load.TheVariants.{Fcb, TranslateTable, CopyModification, OverlaySequence, CopyNumber}
use Rattle.calls.specs.declared.Control.{Control}
use Rattle.calls.specs.declared.Control.TheVariants.{NoOp, SenseIo, Initialize, Clear, Block, Allow, Select}
use Rattle.calls.specs.declared.Command.{Command}
use Rattle.calls.specs.declared.Command.TheVariants.{Write, Move, Controls, Loads, Unlisted}
use Rattle.calls.specs.Core.{Core, World, started}
use Rattle.calls.specs.Commands.{Issued, decode, control_traits, traits_of, is_unlisted}
use Rattle.calls.specs.Reset.{blank_sheet, reset_state, reset, sense_bytes}
use Rattle.calls.specs.Effects.{Effect, nothing, refused, done, moved_sheet, move_of, at_once, standing, moved_core, written_sheet, written, write_causes, loaded, at_line1, load_causes, quietly, do_move, do_write, do_load, completing, do_control, do_command}
use Rattle.calls.specs.Calls.{Call, command, compose, release, tally, movement, refusal_of, do_compose, do_release, emptied, released, tallying, do_tally, perform, effect, step}
use Rattle.calls.specs.Premises.{Free}
use Rattle.calls.proofs.Accepted.{allowed}
use Rattle.calls.proofs.Refused.{accepted-effect, by-outcome}

abbrev pub is_move : Command → Bool
is_move (Write m) = true
is_move (Move m) = true
is_move (Controls c) = false
is_move (Loads l) = false
is_move Unlisted = false

abbrev pub is_command : Call → Bool
is_command (command i) = true
is_command (compose n out) = false
is_command release = false
is_command (tally t) = false

abbrev pub is_compose : Call → Bool
is_compose (command i) = false
is_compose (compose n out) = true
is_compose release = false
is_compose (tally t) = false

-- After a command that found no page waiting, one waits exactly if it completed one.
abbrev Waits : Core → Moved → Core → Type 0
Waits k m k' = Free k → k'.state.sheet.waiting ≡ not (eqb m.pages 0)

-- The causes of a data check that a listed command has.
abbrev pub causes_of : Core → Command → Issued → Causes
causes_of k (Write m) i = or_unmatched (write_causes k i.sent) (move_of k.state m).missed
causes_of k (Move m) i = or_unmatched no_causes (at_once k.state m).missed
causes_of k (Controls c) i = no_causes
causes_of k (Loads l) i = load_causes k l i.sent
causes_of k Unlisted i = no_causes

-- What every listed command does: No-Op and Sense leave the core and do not move; all others are done, with the causes that `causes_of` gives and
-- the movement that `movement` gives.
pub data Shape (k : Core) (c : Command) (i : Issued) (e : Effect) : Type 0 where
  sets : (k' : Core) → (traits_of c).quiet ≡ false → Waits k (movement k c) k' → e ≡ done k' (causes_of k c i) (movement k c) → Shape k c i e
  quiet : (s : SenseStep) (f : Sense → List ℕ) → (traits_of c).quiet ≡ true → movement k c ≡ standing k → e ≡ quietly k s f → Shape k c i e

cond-waits : (t : Bool) (a b : Sheet) → a.waiting ≡ false → b.waiting ≡ true → (cond t a b).waiting ≡ not t
cond-waits true a b p q = p
cond-waits false a b p q = q

moved-waits : (due : Bool) (s : Sheet) (m : Moved) → s.waiting ≡ false → (moved_sheet due s m).waiting ≡ not (eqb m.pages 0)
unfolding moved_sheet
moved-waits due s m e = cond-waits (eqb m.pages 0) _ _ e refl

-- What no load touches.
pub record Untouched (k k' : Core) : Type 0 where
  pub fixed : k'.state.fixed ≡ k.state.fixed
  pub waiting : k'.state.sheet.waiting ≡ k.state.sheet.waiting
  pub page : k'.stores.page ≡ k.stores.page

pub untouched : (k : Core) (l : Load) (r : List ℕ) → Untouched k (loaded k l r)
unfolding loaded at_line1
untouched k Fcb r = record { fixed = refl; waiting = refl; page = refl }
untouched k TranslateTable r = record { fixed = refl; waiting = refl; page = refl }
untouched k CopyModification r = record { fixed = refl; waiting = refl; page = refl }
untouched k OverlaySequence r = record { fixed = refl; waiting = refl; page = refl }
untouched k CopyNumber r = record { fixed = refl; waiting = refl; page = refl }

shape-completing : (k k' : Core) (due t : Bool) (c : Control) (i : Issued) → (control_traits c).completes ≡ true → (control_traits c).quiet ≡ false → (Free k → Free k')
    → started k.state.sheet ≡ t → Shape k (Controls c) i (completing k due k')
unfolding completing movement traits_of moved_sheet to_top still
shape-completing k k' due true c i e q f s = sets (moved_core due k to_top) q (λ w. rw (e, s)) (rw (e, s))
shape-completing k k' due false c i e q f s = sets k' q (λ w. rw (e, s) (f w)) (rw (e, s))

pub shape : (k : Core) (c : Command) (i : Issued) → is_unlisted c ≡ false → Shape k c i (do_command k c i)
unfolding do_command do_control do_write do_move do_load movement traits_of control_traits still written written_sheet reset reset_state blank_sheet
shape k (Write m) i e = sets _ refl (moved-waits false _ (move_of k.state m)) refl
shape k (Move m) i e = sets _ refl (moved-waits false _ (at_once k.state m)) refl
shape k (Controls NoOp) i e = quiet Keep nothing refl refl refl
shape k (Controls SenseIo) i e = quiet _ _ refl refl refl
shape k (Controls Initialize) i e = shape-completing k (reset k) true (started k.state.sheet) Initialize i refl refl (λ w. refl) refl
shape k (Controls Clear) i e = shape-completing k k false (started k.state.sheet) Clear i refl refl (λ w. w) refl
shape k (Controls Block) i e = sets _ refl (λ w. w) refl
shape k (Controls Allow) i e = sets _ refl (λ w. w) refl
shape k (Controls (Select n)) i e = sets _ refl (λ w. w) refl
shape k (Loads l) i e = sets _ refl (λ w. (untouched k l i.sent).waiting ∙ w) refl
shape k Unlisted i e = absurd (true≢false e)

pub performed : (k : Core) (i : Issued) → is_accepted (refusal_of k (command i)) ≡ true → Shape k (decode i.byte) i (do_command k (decode i.byte) i)
performed k i e = shape k (decode i.byte) i (allowed k i e).known

pub acted : (k : Core) (i : Issued) → is_accepted (refusal_of k (command i)) ≡ true → Shape k (decode i.byte) i (effect k (command i))
unfolding perform
acted k i e = rw (accepted-effect k (command i) e) (performed k i e)

-- The answer's refusal is the one that the order gives.
names-shape : {k : Core} {c : Command} {i : Issued} {e : Effect} → Shape k c i e → e.answer.refusal ≡ Accepted
unfolding done
names-shape (sets k' q w e) = ap (λ (e : Effect). e.answer.refusal) e
names-shape (quiet s f q m e) = ap (λ (e : Effect). e.answer.refusal) e

names-perform : (k : Core) (c : Call) → is_accepted (refusal_of k c) ≡ true → (perform k c).answer.refusal ≡ Accepted
unfolding perform do_compose do_release do_tally
names-perform k (command i) e = names-shape (performed k i e)
names-perform k (compose n out) e = refl
names-perform k release e = refl
names-perform k (tally t) e = refl

pub names : (w : World) (c : Call) → (step w c).answer.refusal ≡ refusal_of w.core c
unfolding step refused
names w c =
    by-outcome (λ (e : Effect). e.answer.refusal ≡ refusal_of w.core c) w.core c
    (λ e. names-perform w.core c e ∙ sym (accepted-is _ e)) (λ e. refl)

-- Lines moved: that of the command's movement, which counts the lines entered or looked at, and only Write and Move have any.
lines-shape : {k : Core} {c : Command} {i : Issued} {e : Effect} → Shape k c i e → e.answer.lines ≡ (movement k c).lines
unfolding done still
lines-shape (sets k' q w e) = ap (λ (e : Effect). e.answer.lines) e
lines-shape (quiet s f q m e) = ap (λ (e : Effect). e.answer.lines) e ∙ sym (ap (λ (v : Moved). v.lines) m)

pub lines-moved : (k : Core) (i : Issued) → is_accepted (refusal_of k (command i)) ≡ true
    → (effect k (command i)).answer.lines ≡ (movement k (decode i.byte)).lines
lines-moved k i e = lines-shape (acted k i e)

pub lines-of-no-move : (k : Core) (c : Command) → is_move c ≡ false → (movement k c).lines ≡ 0
unfolding movement still to_top
lines-of-no-move k (Write m) e = absurd (true≢false e)
lines-of-no-move k (Move m) e = absurd (true≢false e)
lines-of-no-move k (Controls c) e =
    cond_has (λ (v : Moved). v.lines ≡ 0) ((control_traits c).completes && started k.state.sheet) (λ t. refl) (λ t. refl)
lines-of-no-move k (Loads l) e = refl
lines-of-no-move k Unlisted e = refl

pub lines-of-others : (k : Core) (c : Call) → is_command c ≡ false → (effect k c).answer.lines ≡ 0
unfolding perform do_compose do_release do_tally refused
lines-of-others k (command i) e = absurd (true≢false e)
lines-of-others k (compose n out) e = by-outcome (λ (x : Effect). x.answer.lines ≡ 0) k (compose n out) (λ a. refl) (λ a. refl)
lines-of-others k release e = by-outcome (λ (x : Effect). x.answer.lines ≡ 0) k release (λ a. refl) (λ a. refl)
lines-of-others k (tally t) e = by-outcome (λ (x : Effect). x.answer.lines ≡ 0) k (tally t) (λ a. refl) (λ a. refl)

-- Copy number and overlay mark are 0 in every answer except that of an accepted Compose.
abbrev NoCopy : Effect → Type 0
NoCopy e = (e.answer.copy ≡ 0) × (e.answer.mark ≡ 0)

copy-shape : {k : Core} {c : Command} {i : Issued} {e : Effect} → Shape k c i e → NoCopy e
unfolding done
copy-shape (sets k' q w e) = rw e (refl, refl)
copy-shape (quiet s f q m e) = rw e (refl, refl)

pub no_copy : (k : Core) (c : Call) → (is_compose c && is_accepted (refusal_of k c)) ≡ false → NoCopy (effect k c)
unfolding perform do_release do_tally refused
no_copy k (command i) e = by-outcome NoCopy k (command i) (λ a. copy-shape (performed k i a)) (λ a. (refl, refl))
no_copy k (compose n out) e = by-outcome NoCopy k (compose n out) (λ a. absurd (true≢false (sym a ∙ e))) (λ a. (refl, refl))
no_copy k release e = by-outcome NoCopy k release (λ a. (refl, refl)) (λ a. (refl, refl))
no_copy k (tally t) e = by-outcome NoCopy k (tally t) (λ a. (refl, refl)) (λ a. (refl, refl))

-- Accepted commands except No-Op and Sense set the sense anew.
anew-shape : {k : Core} {c : Command} {i : Issued} {e : Effect} → Shape k c i e → (traits_of c).quiet ≡ false → is_anew e.sense ≡ true
unfolding done
anew-shape (sets k' q w e) n = rw e
anew-shape (quiet s f q m e) n = absurd (true≢false (sym q ∙ n))

pub sets-anew : (k : Core) (i : Issued) → is_accepted (refusal_of k (command i)) ≡ true → (traits_of (decode i.byte)).quiet ≡ false
    → is_anew (effect k (command i)).sense ≡ true
sets-anew k i e q = anew-shape (acted k i e) q

-- Page ready exactly when this very command completed a page: none waited before it, and one waits after it.
abbrev ReadyHolds : Core → Effect → Type 0
ReadyHolds k e = e.answer.ready ≡ (not k.state.sheet.waiting && e.core.state.sheet.waiting)

not-both : (w : Bool) → false ≡ (not w && w)
not-both true = refl
not-both false = refl

-- an accepted command that is not quiet finds no page waiting
pub was_free : {w q : Bool} → q ≡ false → (w && not q) ≡ false → w ≡ false
was_free {w = true} {q = true} n e = absurd (true≢false n)
was_free {w = true} {q = false} n e = e
was_free {w = false} n e = refl

ready-shape : {k : Core} {c : Command} {i : Issued} {e : Effect} → Shape k c i e → (k.state.sheet.waiting && not (traits_of c).quiet) ≡ false → ReadyHolds k e
unfolding done
ready-shape {k} (sets k' q w h) f = let free : Free k = was_free q f in rw (h, w free, free)
ready-shape {k} (quiet s f q m h) e = rw h (not-both k.state.sheet.waiting)

pub released-free : (k : Core) → Free (released k)
unfolding released emptied reset reset_state blank_sheet
released-free k = cond_has Free k.state.sheet.due (λ t. refl) (λ t. refl)

ready-perform : (k : Core) (c : Call) → is_accepted (refusal_of k c) ≡ true → ReadyHolds k (perform k c)
unfolding perform do_compose do_release do_tally tallying
ready-perform k (command i) e = ready-shape (performed k i e) (allowed k i e).free
ready-perform k (compose n out) e = not-both k.state.sheet.waiting
ready-perform k release e = rw (released-free k) (sym (and-false (not k.state.sheet.waiting)))
ready-perform k (tally t) e = not-both k.state.sheet.waiting

pub ready-exactly : (k : Core) (c : Call) → ReadyHolds k (effect k c)
unfolding refused
ready-exactly k c = by-outcome (ReadyHolds k) k c (ready-perform k c) (λ e. not-both k.state.sheet.waiting)

-- Sense replies 24 bytes.
pub length-sense_bytes : (s : State) (n : Sense) → length (sense_bytes s n) ≡ sense_size
unfolding sense_bytes
length-sense_bytes s n = refl
