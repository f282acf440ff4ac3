-- T-01: what an answer tells of unprintable positions. Every answer's first and count are both 0 or neither, and 0 unless an accepted write or legend load
-- has such a position; then, with Block off, sense byte 1 has 80.
use Prim.Native.Nat.{ℕ, ◌/◌, ◌≤◌}
use mathlib.Core.Path.{◌≡◌, refl, sym, ap, ◌∙◌}
use mathlib.Core.Bool.{Bool, true, false, ◌&&◌, and-true, true≢false, false≢true}
use mathlib.Core.List.{List, []}
use native.Mathlib.Omega.{arith}
use lib.ListN.{length}
use lib.Dec.{eqb}
use borrow.Author.Tests.{ltb-false}
use Rattle.numbers.specs.Sizes.{legend_size}
use Rattle.std.specs.Prelude.{Ok}
use Rattle.numbers.specs.declared.Answer.{Answer}
use Rattle.numbers.specs.declared.Sense.{Sense}
use Rattle.numbers.specs.Numbers.{is_accepted, sense_after}
use Rattle.line.specs.declared.Unprintables.{Unprintables}
use Rattle.line.specs.Line.{serving, unprintable_at, told, no_causes, text_causes, line_causes, or_unmatched}
use Rattle.line.proofs.UnprintableLaws.{Tells, told-tells, none-tells, unprintable-positions, unprintable-few, check-80}
use Rattle.legends.specs.Legends.{unprintable_in_texts}
use Rattle.legends.proofs.TextLaws.{texts-positions, texts-few}
use Rattle.calls.specs.declared.Load.{Load}
use Rattle.calls.specs.declared.Load.TheVariants.{Fcb, TranslateTable, CopyModification, OverlaySequence, CopyNumber}
use Rattle.calls.specs.declared.Command.{Command}
use Rattle.calls.specs.declared.Command.TheVariants.{Write, Move, Controls, Loads, Unlisted}
use Rattle.calls.specs.Core.{Core, World}
use Rattle.calls.specs.Commands.{Issued, decode, traits_of}
use Rattle.calls.specs.Effects.{Effect, refused, done, written, write_causes, do_write, load_check, loaded, load_causes, do_load, do_command}
use Rattle.calls.specs.Calls.{Call, command, compose, release, tally, check_of, refusal_of, do_compose, do_release, do_tally, perform, effect, step}
use Rattle.calls.specs.Premises.{Allowed}
use Rattle.calls.proofs.Accepted.{allowed}
use Rattle.calls.proofs.Refused.{by-outcome}
use Rattle.calls.proofs.Changes.{write-fits}
use Rattle.calls.proofs.Answers.{causes_of, Shape, sets, quiet, performed, acted}

-- The unprintable positions of what a command translates, through the table that serves: a write's record, a legend load's texts; others have none.
abbrev through : Core → List ℕ → List ℕ
through k r = unprintable_at k.state.fixed.pitches (serving k.state.slots k.stores.tables) r

abbrev in_load : Core → Load → List ℕ → List ℕ
in_load k Fcb r = []
in_load k TranslateTable r = []
in_load k CopyModification r = unprintable_in_texts (through k) r
in_load k OverlaySequence r = []
in_load k CopyNumber r = []

abbrev pub unprintable_in : Core → Command → List ℕ → List ℕ
unprintable_in k (Write m) r = through k r
unprintable_in k (Move m) r = []
unprintable_in k (Controls c) r = []
unprintable_in k (Loads l) r = in_load k l r
unprintable_in k Unlisted r = []

load_told : (k : Core) (l : Load) (r : List ℕ) → (load_causes k l r).unprintables ≡ told (in_load k l r)
unfolding load_causes no_causes text_causes
load_told k Fcb r = refl
load_told k TranslateTable r = refl
load_told k CopyModification r = refl
load_told k OverlaySequence r = refl
load_told k CopyNumber r = refl

causes-told : (k : Core) (c : Command) (i : Issued) → (causes_of k c i).unprintables ≡ told (unprintable_in k c i.sent)
unfolding write_causes line_causes text_causes or_unmatched no_causes
causes-told k (Write m) i = refl
causes-told k (Move m) i = refl
causes-told k (Controls c) i = refl
causes-told k (Loads l) i = load_told k l i.sent
causes-told k Unlisted i = refl

-- Those are what an accepted command's answer tells.
abbrev pub told_in : Answer → Unprintables
told_in a = record { first = a.first; count = a.count }

quiet_none : (k : Core) (c : Command) (r : List ℕ) → (traits_of c).quiet ≡ true → unprintable_in k c r ≡ []
unfolding traits_of
quiet_none k (Write m) r e = absurd (false≢true e)
quiet_none k (Move m) r e = refl
quiet_none k (Controls c) r e = refl
quiet_none k (Loads l) r e = absurd (false≢true e)
quiet_none k Unlisted r e = refl

told-shape : {k : Core} {c : Command} {i : Issued} {e : Effect} → Shape k c i e → told_in e.answer ≡ told (unprintable_in k c i.sent)
unfolding done
told-shape {k} {c} {i} (sets k' q w e) = ap (λ (x : Effect). told_in x.answer) e ∙ causes-told k c i
told-shape {k} {c} {i} (quiet s f q m e) = ap (λ (x : Effect). told_in x.answer) e ∙ ap told (sym (quiet_none k c i.sent q))

pub tells-exactly : (k : Core) (i : Issued) → is_accepted (refusal_of k (command i)) ≡ true
    → told_in (effect k (command i)).answer ≡ told (unprintable_in k (decode i.byte) i.sent)
tells-exactly k i e = told-shape (acted k i e)

-- All other answers tell none: those of other commands and calls, and every refusal.
abbrev translates : Command → Bool
translates (Write m) = true
translates (Move m) = false
translates (Controls c) = false
translates (Loads Fcb) = false
translates (Loads TranslateTable) = false
translates (Loads CopyModification) = true
translates (Loads OverlaySequence) = false
translates (Loads CopyNumber) = false
translates Unlisted = false

abbrev pub is_translating : Call → Bool
is_translating (command i) = translates (decode i.byte)
is_translating (compose n out) = false
is_translating release = false
is_translating (tally t) = false

others-none : (k : Core) (c : Command) (r : List ℕ) → translates c ≡ false → unprintable_in k c r ≡ []
others-none k (Write m) r e = absurd (true≢false e)
others-none k (Move m) r e = refl
others-none k (Controls c) r e = refl
others-none k (Loads Fcb) r e = refl
others-none k (Loads TranslateTable) r e = refl
others-none k (Loads CopyModification) r e = absurd (true≢false e)
others-none k (Loads OverlaySequence) r e = refl
others-none k (Loads CopyNumber) r e = refl
others-none k Unlisted r e = refl

perform-none : (k : Core) (c : Call) → is_accepted (refusal_of k c) ≡ true → is_translating c ≡ false → told_in (perform k c).answer ≡ told []
unfolding perform do_compose do_release do_tally
perform-none k (command i) a e = told-shape (performed k i a) ∙ ap told (others-none k (decode i.byte) i.sent e)
perform-none k (compose n out) a e = refl
perform-none k release a e = refl
perform-none k (tally t) a e = refl

pub tells_none : (k : Core) (c : Call) → (is_translating c && is_accepted (refusal_of k c)) ≡ false → told_in (effect k c).answer ≡ told []
unfolding refused
tells_none k c e =
    by-outcome (λ (x : Effect). told_in x.answer ≡ told []) k c (λ a. perform-none k c a (sym (and-true _) ∙ ap (λ (b : Bool). is_translating c && b) (sym a) ∙ e))
    (λ r. refl)

-- Both are 0 or neither is; the first is a position of a line.
load-tells : (k : Core) (l : Load) (r : List ℕ) → length r ≤ legend_size → load_check k.state l r ≡ Ok tt → Tells (told (in_load k l r))
unfolding load_check
load-tells k Fcb r h e = none-tells
load-tells k TranslateTable r h e = none-tells
load-tells k CopyModification r h e =
    let t = serving k.state.slots k.stores.tables in
    told-tells (unprintable_in_texts (through k) r) (texts-positions _ t r e) (omega (arith, h, texts-few k.state.fixed.pitches t r))
load-tells k OverlaySequence r h e = none-tells
load-tells k CopyNumber r h e = none-tells

command-tells : (k : Core) (c : Command) (i : Issued) → Allowed k c i → Tells (told (unprintable_in k c i.sent))
unfolding check_of
command-tells k (Write m) i a =
    let h = write-fits a in
    let t = serving k.state.slots k.stores.tables in
    told-tells (through k i.sent) (unprintable-positions _ t i.sent h) (omega (arith, h, unprintable-few k.state.fixed.pitches t i.sent))
command-tells k (Move m) i a = none-tells
command-tells k (Controls c) i a = none-tells
command-tells k (Loads l) i a = load-tells k l i.sent (ltb-false legend_size (length i.sent) a.sized) a.sound
command-tells k Unlisted i a = none-tells

pub causes-tell : (k : Core) (c : Command) (i : Issued) → Allowed k c i → Tells (causes_of k c i).unprintables
causes-tell k c i a = rw (causes-told k c i) (command-tells k c i a)

perform-tells : (k : Core) (c : Call) → is_accepted (refusal_of k c) ≡ true → Tells (told_in (perform k c).answer)
unfolding perform do_compose do_release do_tally
perform-tells k (command i) e = rw (told-shape (performed k i e)) (command-tells k (decode i.byte) i (allowed k i e))
perform-tells k (compose n out) e = none-tells
perform-tells k release e = none-tells
perform-tells k (tally t) e = none-tells

pub tells : (k : Core) (c : Call) → Tells (told_in (effect k c).answer)
unfolding refused
tells k c = by-outcome (λ (x : Effect). Tells (told_in x.answer)) k c (perform-tells k c) (λ e. none-tells)

-- Where a position is told and Block is off, sense byte 1 has 80.
check-translated : (k : Core) (c : Command) (i : Issued) (s : Sense) → translates c ≡ true → eqb (do_command k c i).answer.count 0 ≡ false
    → k.state.blocked ≡ false → (sense_after s (do_command k c i).sense).b1 / 0x80 ≡ 1
unfolding do_command do_write do_load done written loaded
check-translated k (Write m) i s t e b = check-80 _ _ ∙ rw (e, b)
check-translated k (Move m) i s t e b = absurd (false≢true t)
check-translated k (Controls c) i s t e b = absurd (false≢true t)
check-translated k (Loads Fcb) i s t e b = absurd (false≢true t)
check-translated k (Loads TranslateTable) i s t e b = absurd (false≢true t)
check-translated k (Loads CopyModification) i s t e b = check-80 _ _ ∙ rw (e, b)
check-translated k (Loads OverlaySequence) i s t e b = absurd (false≢true t)
check-translated k (Loads CopyNumber) i s t e b = absurd (false≢true t)
check-translated k Unlisted i s t e b = absurd (false≢true t)

check-perform : (k : Core) (c : Call) (s : Sense) → is_accepted (refusal_of k c) ≡ true → eqb (perform k c).answer.count 0 ≡ false
    → k.state.blocked ≡ false → (sense_after s (perform k c).sense).b1 / 0x80 ≡ 1
unfolding perform do_compose do_release do_tally
check-perform k (command i) s a e b = go (translates (decode i.byte)) refl
  where
    go : (t : Bool) → translates (decode i.byte) ≡ t → (sense_after s (do_command k (decode i.byte) i).sense).b1 / 0x80 ≡ 1
    go true t = check-translated k (decode i.byte) i s t e b
    go false t = absurd (false≢true (sym e ∙ ap (λ (u : Unprintables). eqb u.count 0) (perform-none k (command i) a t)))
check-perform k (compose n out) s a e b = absurd (true≢false e)
check-perform k release s a e b = absurd (true≢false e)
check-perform k (tally t) s a e b = absurd (true≢false e)

pub tells-check : (w : World) (c : Call) → eqb (step w c).answer.count 0 ≡ false → w.core.state.blocked ≡ false → (step w c).world.sense.b1 / 0x80 ≡ 1
unfolding step refused
tells-check w c e b =
    by-outcome (λ (x : Effect). eqb x.answer.count 0 ≡ false → (sense_after w.sense x.sense).b1 / 0x80 ≡ 1) w.core c
    (λ a h. check-perform w.core c w.sense a h b) (λ r h. absurd (true≢false h)) e
