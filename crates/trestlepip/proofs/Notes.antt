-- A host's notes are what the definitions say of its calls since the latest finished reset: what it kept, the deeds and the answers.
use Prim.Native.Nat.{ℕ}
use mathlib.Core.Path.{◌≡◌, refl, sym, ap, ◌∙◌}
use mathlib.Core.Bool.{Bool, true, false, cond, not, ◌&&◌, ◌||◌, false≢true}
use mathlib.Core.List.{List, [], ◌∷◌, ◌++◌, map, map-append, reverse, reverse-cons}
use lib.Dec.{eqb}
use borrow.Author.Tests.{not-true}
use Rattle.seq.specs.Words.{bit, every}
use Rattle.seq.proofs.Laws.{every-at, cond_has}
use Rattle.numbers.specs.Numbers.{is_accepted}
use Rattle.movement.specs.declared.Moved.{Moved}
use Rattle.movement.specs.Movement.{still, to_top}
use Rattle.counters.specs.declared.Tally.{Tally}
use Rattle.calls.specs.declared.Sheet.{Sheet}
use Rattle.calls.specs.declared.Load.{Load}
use Rattle.calls.specs.declared.Load.TheVariants.{Fcb, TranslateTable, CopyModification, OverlaySequence, CopyNumber}
use Rattle.calls.specs.declared.Control.TheVariants.{NoOp, SenseIo, Initialize, Clear, Block, Allow, Select}
use Rattle.calls.specs.declared.Command.{Command}
use Rattle.calls.specs.declared.Command.TheVariants.{Write, Move, Controls, Loads, Unlisted}
use Rattle.calls.specs.Core.{Core, World, started}
use Rattle.calls.specs.Commands.{Issued, decode, control_traits, traits_of}
use Rattle.calls.specs.Contents.{due_ok}
use Rattle.calls.specs.Reset.{blank_sheet, Kept, kept_of, reset_state, reset, fresh}
use Rattle.calls.specs.Effects.{Effect, refused, done, moved_sheet, move_of, at_once, written_sheet, written, at_line1, loaded, do_move, do_write, do_load, completing, do_control, do_command}
use Rattle.calls.specs.Calls.{Call, command, compose, release, tally, refusal_of, page_counted, emptied, released, do_release, tallying, do_tally, perform, effect, step}
use Rattle.calls.specs.Start.{start_world}
use Rattle.calls.specs.declared.Asked.{Asked}
use Rattle.calls.specs.Lists.{world_after, counts, Deed, deed_of, finishes_reset, Given, given, Since, since_now, note, since_over, since_reset}
use Rattle.calls.specs.Pages.{counters_by}
use Rattle.calls.specs.Premises.{Sized}
use Rattle.calls.proofs.Accepted.{allowed}
use Rattle.calls.proofs.Refused.{accepted-effect}
use Rattle.calls.proofs.Answers.{names, was_free}
use Rattle.calls.proofs.Good.{good}
use Rattle.calls.proofs.Changes.{after-append}
use Rattle.calls.proofs.Invariants.{sized-call}
use Rattle.calls.proofs.SinceReset.{idle-core}
use Rattle.calls.proofs.Counting.{call-counts}
use Rattle.state.specs.Packed.{packed}
use Rattle.state.specs.Host.{held_in, shown}
use Rattle.state.proofs.Fitting.{accepted-fits}
use Rattle.state.proofs.Fields.{fields, number-back}
use Rattle.trestlepip.specs.Host.{ready_in}
use Rattle.trestlepip.specs.Notes.{counts_by, finishes_by, due_by, control_switch, command_switch, switch_by, kept_by, Noted, Notes, deeds_in, note_call, notes_over, notes}
use Rattle.trestlepip.proofs.Steps.{call-steps}

-- What a command leaves of switch and reset, where none is due before it: Block and Allow set the switch, and only an Initialize that completes a page
-- makes a reset due.
record Leaves (k : Core) (c : Command) (e : Effect) : Type 0 where
  blocked : e.core.state.blocked ≡ command_switch c k.state.blocked
  due : e.core.state.sheet.due ≡ ((traits_of c).resets && e.answer.ready)
  ready : (traits_of c).resets ≡ true → e.answer.ready ≡ started k.state.sheet

-- a command that is no Initialize
keeps : {k : Core} {c : Command} {e : Effect} → (traits_of c).resets ≡ false → e.core.state.blocked ≡ command_switch c k.state.blocked
    → e.core.state.sheet.due ≡ false → Leaves k c e
keeps r b d = record { blocked = b; due = rw r d; ready = λ t. absurd (false≢true (sym r ∙ t)) }

moved-due : (s : Sheet) (m : Moved) → s.due ≡ false → (moved_sheet false s m).due ≡ false
unfolding moved_sheet
moved-due s m d = cond_has (λ (x : Sheet). x.due ≡ false) (eqb m.pages 0) (λ t. d) (λ t. refl)

loaded-leaves : (k : Core) (l : Load) (r : List ℕ) → ((loaded k l r).state.blocked ≡ k.state.blocked) × ((loaded k l r).state.sheet.due ≡ k.state.sheet.due)
unfolding loaded at_line1
loaded-leaves k Fcb r = (refl, refl)
loaded-leaves k TranslateTable r = (refl, refl)
loaded-leaves k CopyModification r = (refl, refl)
loaded-leaves k OverlaySequence r = (refl, refl)
loaded-leaves k CopyNumber r = (refl, refl)

leaves : (k : Core) (c : Command) (i : Issued) → k.state.sheet.due ≡ false → Leaves k c (do_command k c i)
unfolding do_command do_control do_write do_move do_load completing done written written_sheet reset reset_state blank_sheet moved_sheet to_top still refused traits_of control_traits command_switch control_switch
leaves k (Write m) i d = keeps refl refl (moved-due (written_sheet k.state.sheet) (move_of k.state m) d)
leaves k (Move m) i d = keeps refl refl (moved-due k.state.sheet (at_once k.state m) d)
leaves k (Controls NoOp) i d = keeps refl refl d
leaves k (Controls SenseIo) i d = keeps refl refl d
leaves k (Controls Initialize) i d = go (started k.state.sheet) refl
  where
    go : (t : Bool) → started k.state.sheet ≡ t → Leaves k (Controls Initialize) (completing k true (reset k))
    go true e = rw e (record { blocked = refl; due = refl; ready = λ r. sym e })
    go false e = rw e (record { blocked = refl; due = refl; ready = λ r. sym e })
leaves k (Controls Clear) i d =
    cond_has (Leaves k (Controls Clear)) (started k.state.sheet) (λ t. keeps refl refl refl) (λ t. keeps refl refl d)
leaves k (Controls Block) i d = keeps refl refl d
leaves k (Controls Allow) i d = keeps refl refl d
leaves k (Controls (Select n)) i d = keeps refl refl d
leaves k (Loads l) i d = let h = loaded-leaves k l i.sent in keeps refl h.0 (h.1 ∙ d)
leaves k Unlisted i d = keeps refl refl d

-- None is due where a command counts: no page waits.
free-due : (d w : Bool) → (not d || w) ≡ true → w ≡ false → d ≡ false
free-due true w e h = sym e ∙ h
free-due false w e h = refl

counted : (k : Core) (i : Issued) → counts k (command i) ≡ true → Leaves k (decode i.byte) (effect k (command i))
unfolding counts perform due_ok
counted k i e =
    let a = every-at 0 _ e in
    let p = allowed k i a in
    let free = was_free {q = (traits_of (decode i.byte)).quiet} (not-true _ (every-at 1 _ e)) p.free in
    rw (accepted-effect k (command i) a)
    (leaves k (decode i.byte) i (free-due _ k.state.sheet.waiting (good k p.ok).sheet.due free))

release-leaves : (k : Core) → counts k release ≡ true
    → ((effect k release).core.state.blocked ≡ k.state.blocked) × ((effect k release).core.state.sheet.due ≡ false)
unfolding counts perform do_release released page_counted emptied reset reset_state blank_sheet
release-leaves k e =
    rw (accepted-effect k release e)
    (cond_has (λ (x : Core). (x.state.blocked ≡ k.state.blocked) × (x.state.sheet.due ≡ false)) k.state.sheet.due (λ t. (refl, refl)) (λ t. (refl, refl)))

tally-leaves : (k : Core) (t : Tally) → counts k (tally t) ≡ true
    → ((effect k (tally t)).core.state.blocked ≡ k.state.blocked) × ((effect k (tally t)).core.state.sheet.due ≡ k.state.sheet.due)
unfolding counts perform do_tally tallying
tally-leaves k t e = rw (accepted-effect k (tally t) e) (refl, refl)

-- A call that counts is accepted, and changes the counters as it says.
counts-accepted : (k : Core) (c : Call) → counts k c ≡ true → is_accepted (refusal_of k c) ≡ true
unfolding counts
counts-accepted k (command i) e = every-at 0 _ e
counts-accepted k (compose n out) e = absurd (false≢true e)
counts-accepted k release e = e
counts-accepted k (tally t) e = e

counters-told : (k : Core) (c : Call) → counts k c ≡ true → counters_by c k.state.counters ≡ (effect k c).core.state.counters
counters-told k c e = rw (call-counts k c, counts-accepted k c e)

-- Page ready comes back from the answer of a command that counts.
bit_is : (b : Bool) → eqb (bit b 1) 1 ≡ b
bit_is true = refl
bit_is false = refl

ready-told : (k : Core) (i : Issued) → counts k (command i) ≡ true → ready_in (packed (effect k (command i)).answer) ≡ (effect k (command i)).answer.ready
unfolding counts
ready-told k i e = ap (λ (n : ℕ). eqb n 1) (fields _ (accepted-fits k i (every-at 0 _ e))).ready ∙ bit_is _

third : (a b : Bool) {x y : Bool} → (a ≡ true → b ≡ true → x ≡ y) → every (a ∷ b ∷ x ∷ []) ≡ every (a ∷ b ∷ y ∷ [])
unfolding every
third true true h = rw (h refl refl)
third true false h = refl
third false b h = refl

-- The packed answer tells what counts, what finishes a reset, and what a call that counts leaves of switch and reset.
module _ (w : World) where
  counts-told : (c : Call) → counts_by c (packed (step w c).answer) ≡ counts w.core c
  unfolding counts_by counts is_accepted
  counts-told (command i) = rw (number-back (step w (command i)).answer, names w (command i))
  counts-told (compose n out) = refl
  counts-told release = rw (number-back (step w release).answer, names w release)
  counts-told (tally t) = rw (number-back (step w (tally t)).answer, names w (tally t))

  finishes-told : (c : Call) → finishes_by w.core.state.sheet.due c (packed (step w c).answer) ≡ finishes_reset w.core c
  unfolding finishes_by finishes_reset step
  finishes-told (command i) =
      rw (counts-told (command i))
      (third (counts w.core (command i)) (traits_of (decode i.byte)).resets
      (λ a r. ap not (ready-told w.core i a ∙ (counted w.core i a).ready r)))
  finishes-told (compose n out) = refl
  finishes-told release = rw (counts-told release)
  finishes-told (tally t) = refl

  due-told : (c : Call) → counts w.core c ≡ true
      → due_by w.core.state.sheet.due c (packed (step w c).answer) ≡ (effect w.core c).core.state.sheet.due
  unfolding due_by step counts
  due-told (command i) a = rw (ready-told w.core i a) (sym (counted w.core i a).due)
  due-told (compose n out) a = absurd (false≢true a)
  due-told release a = sym (release-leaves w.core a).1
  due-told (tally t) a = sym (tally-leaves w.core t a).1

  switch-told : (c : Call) → counts w.core c ≡ true → switch_by c w.core.state.blocked ≡ (effect w.core c).core.state.blocked
  unfolding switch_by counts
  switch-told (command i) a = sym (counted w.core i a).blocked
  switch-told (compose n out) a = absurd (false≢true a)
  switch-told release a = sym (release-leaves w.core a).0
  switch-told (tally t) a = sym (tally-leaves w.core t a).0

  kept-told : (c : Call) → counts w.core c ≡ true → kept_by c (kept_of w.core.state) ≡ kept_of (effect w.core c).core.state
  unfolding kept_by
  kept-told c a = rw (switch-told c a, counters-told w.core c a)

-- The packed answers of what a host noted, and of what the definitions say.
abbrev pub answers_in : List Noted → List ℕ
answers_in l = map (λ (x : Noted). x.answer) l

abbrev pub packed_in : List Given → List ℕ
packed_in l = map (λ (g : Given). packed g.answer) l

-- Each noted call x ends a part xs of the calls made on w. The deeds since the latest finished reset of xs are those noted up to x.
pub record Ends (w : World) (xs : List Call) (kept : Kept) (x : Noted) (l : List Noted) : Type 0 where
  pub keeps : (since_reset w xs).kept ≡ kept
  pub deeds : (since_reset w xs).deeds ≡ reverse (deeds_in (x ∷ l))
  pub after : x.after ≡ held_in (world_after w xs)

pub data Told (w : World) (kept : Kept) : List Noted → Type 0 where
  none : Told w kept []
  next : {x : Noted} {l : List Noted} (xs : List Call) → Ends w xs kept x l → Told w kept l → Told w kept (x ∷ l)

-- The notes n of calls that were made on w and left v, beside what the definitions say of them, s.
pub record Agrees (w v : World) (s : Since) (n : Notes) : Type 0 where
  pub kept : n.kept ≡ s.kept
  pub deeds : reverse (deeds_in n.calls) ≡ s.deeds
  pub answers : reverse (answers_in n.calls) ≡ packed_in s.gave
  pub keeps : n.keeps ≡ kept_of v.core.state
  pub due : n.due ≡ v.core.state.sheet.due
  pub told : Told w n.kept n.calls

-- A list with one more call.
since-one : (w : World) (s : Since) (xs : List Call) (c : Call)
    → since_over w.core s (xs ++ (c ∷ [])) ≡ note (world_after w xs).core (since_over w.core s xs) c
unfolding since_over world_after step
since-one w s [] c = refl
since-one w s (x ∷ xs) c = since-one (step w x).world (note w.core s x) xs c

module _ (w v : World) (s : Since) (xs : List Call) (ew : world_after w xs ≡ v) (es : since_reset w xs ≡ s) (n : Notes) (h : Agrees w v s n) (c : Call) where
  keeps-noted : cond (counts v.core c) (kept_by c n.keeps) n.keeps ≡ kept_of (effect v.core c).core.state
  keeps-noted =
      cond_has (λ (k : Kept). k ≡ kept_of (effect v.core c).core.state) (counts v.core c) (λ t. rw h.keeps (kept-told v c t))
      (λ t. rw (idle-core v.core c t) h.keeps)

  due-noted : cond (counts v.core c) (due_by n.due c (packed (step v c).answer)) n.due ≡ (effect v.core c).core.state.sheet.due
  due-noted =
      cond_has (λ (b : Bool). b ≡ (effect v.core c).core.state.sheet.due) (counts v.core c) (λ t. rw h.due (due-told v c t))
      (λ t. rw (idle-core v.core c t) h.due)

  finishes-noted : finishes_by n.due c (packed (step v c).answer) ≡ finishes_reset v.core c
  finishes-noted = rw h.due (finishes-told v c)

  after_call : world_after w (xs ++ (c ∷ [])) ≡ (step v c).world
  unfolding world_after
  after_call = after-append w xs (c ∷ []) ∙ ap (λ (x : World). (step x c).world) ew

  since-call : since_reset w (xs ++ (c ∷ [])) ≡ note v.core s c
  unfolding since_reset
  since-call = since-one w (since_now w.core.state) xs c ∙ rw (ew, es)

  agrees-call : Agrees w (step v c).world (note v.core s c) (note_call n c (shown (step v c)))
  unfolding note_call note since_now step given
  agrees-call = go (finishes_reset v.core c) refl (counts v.core c) refl
    where
      go : (p : Bool) → finishes_reset v.core c ≡ p → (q : Bool) → counts v.core c ≡ q
          → Agrees w (step v c).world (note v.core s c) (note_call n c (shown (step v c)))
      go true ep q eq =
          rw (finishes-noted, counts-told v c, ep)
          (record { kept = keeps-noted; deeds = refl; answers = refl; keeps = keeps-noted; due = due-noted; told = none })
      go false ep true eq =
          let since = rw (ep, eq) at since-call in
          let deeds = reverse-cons (deed_of c) (deeds_in n.calls) ∙ ap (λ (l : List Deed). l ++ (deed_of c ∷ [])) h.deeds in
          rw (finishes-noted, counts-told v c, ep)
          (record {
            kept = rw eq h.kept;
            deeds = rw eq deeds;
            answers =
                rw eq
                (reverse-cons _ (answers_in n.calls) ∙ rw h.answers (sym (map-append (λ (g : Given). packed g.answer) s.gave (given v.core c ∷ []))));
            keeps = keeps-noted;
            due = due-noted;
            told =
                rw eq
                (next (xs ++ (c ∷ []))
                (record {
                  keeps = ap (λ (x : Since). x.kept) since ∙ sym h.kept;
                  deeds = ap (λ (x : Since). x.deeds) since ∙ sym deeds;
                  after = ap held_in (sym after_call);
                })
                h.told);
          })
      go false ep false eq =
          rw (finishes-noted, counts-told v c, ep)
          (record { kept = rw eq h.kept; deeds = rw eq h.deeds; answers = rw eq h.answers; keeps = keeps-noted; due = due-noted; told = rw eq h.told })

-- Any list of calls, then from an accepted Start.
agrees-over : (w v : World) (s : Since) (xs cs : List Call) (n : Notes) → world_after w xs ≡ v → since_reset w xs ≡ s → Sized v.core.state → Agrees w v s n
    → Agrees w (world_after v cs) (since_over v.core s cs) (notes_over (held_in v) n cs)
unfolding world_after since_over notes_over step
agrees-over w v s xs [] n ew es z h = h
agrees-over w v s xs (c ∷ cs) n ew es z h =
    rw (call-steps v c z)
    (agrees-over w (step v c).world (note v.core s c) (xs ++ (c ∷ [])) cs _ (after_call w v s xs ew es n h c) (since-call w v s xs ew es n h c)
    (sized-call v.core c z) (agrees-call w v s xs ew es n h c))

pub notes-agree : (a : Asked) (cs : List Call) → Sized (start_world a).core.state
    → (let w = start_world a in Agrees w (world_after w cs) (since_reset w cs) (notes (held_in w) cs))
unfolding notes since_reset world_after since_over since_now start_world fresh reset_state blank_sheet
notes-agree a cs z =
    let w = start_world a in
    agrees-over w w (since_now w.core.state) [] cs _ refl refl z (record { kept = refl; deeds = refl; answers = refl; keeps = refl; due = refl; told = none })
