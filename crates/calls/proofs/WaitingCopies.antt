-- Demand 3: the copies that it compares are those that Compose shows of a page that waits.
use Prim.Native.Nat.{ℕ, ◌-◌, ◌≤◌}
use mathlib.Core.Path.{◌≡◌, refl, sym, ap, ◌∙◌}
use mathlib.Core.Bool.{Bool, true, false, cond, not, ◌&&◌, true≢false, false≢true}
use mathlib.Core.List.{List, [], ◌∷◌, ◌++◌}
use mathlib.Core.Logic.{◌⊎◌, inl, inr}
use native.Mathlib.Omega.{arith}
use lib.ListN.{get_or}
use borrow.Author.Tests.{not-true}
use Rattle.seq.specs.Words.{from}
use Rattle.seq.proofs.Laws.{every-at, length_from, get_or-from}
use Rattle.seq.proofs.Loops.{get_or-map}
use Rattle.numbers.specs.declared.Refusal.TheVariants.{Accepted}
use Rattle.numbers.specs.Numbers.{is_accepted}
use Rattle.copies.specs.Copies.{copy_count}
use Rattle.calls.specs.declared.Fixed.{Fixed}
use Rattle.calls.specs.Core.{Core, World, lines_now}
use Rattle.calls.specs.Commands.{decode, traits_of}
use Rattle.calls.specs.Reset.{blank_sheet, Kept, reset_state, reset_stores, fresh}
use Rattle.calls.specs.Calls.{Call, command, compose, release, tally, refusal_of, do_compose, do_release, tallying, do_tally, perform, effect, over, step, Copy, copy_at}
use Rattle.calls.specs.Premises.{Free}
use Rattle.calls.specs.Lists.{world_after, counts, finishes_reset, copies_of_page, Given, given, gives, Since, since_now, note, since_over, since_reset}
use Rattle.calls.proofs.Accepted.{allowed}
use Rattle.calls.proofs.Refused.{accepted-effect}
use Rattle.calls.proofs.Answers.{ready-exactly, was_free, released-free}
use Rattle.calls.proofs.Invariants.{Blank, blank-call}
use Rattle.calls.proofs.SinceReset.{idle-core, finished-free}

-- What `gives` lists is what the calls, made one after the other, answer and leave.
pub gives-steps : (w : World) (c : Call) (cs : List Call)
    → gives w.core (c ∷ cs)
    ≡ record { answer = (step w c).answer; page = cond (step w c).answer.ready (copies_of_page (step w c).world.core) [] } ∷ gives (step w c).world.core cs
unfolding gives given step
gives-steps w c cs = refl

-- An accepted Compose, whole: the copy's number, mark and cells, over the front of the output; nothing else changes.
pub compose-gives : (w : World) (n : ℕ) (out : List ℕ) → is_accepted (refusal_of w.core (compose n out)) ≡ true
    → (let c = copy_at w.core n in
    step w (compose n out)
    ≡ record {
      answer = record { refusal = Accepted; status = 0; ready = false; lines = 0; copy = c.number; mark = c.mark; first = 0; count = 0 };
      buffer = over c.cells out;
      world = w;
    })
unfolding step perform do_compose copy_at
compose-gives w n out e = rw (accepted-effect w.core (compose n out) e)

-- While a page waits only its Release counts, and reports, cancels and restarts, which leave its copies as they are.
pub page-stays : (k : Core) (c : Call) → k.state.sheet.waiting ≡ true → counts k c ≡ true
    → Free (effect k c).core ⊎ (((effect k c).answer.ready ≡ false) × (copies_of_page (effect k c).core ≡ copies_of_page k))
unfolding counts perform do_release do_tally tallying copies_of_page copy_at lines_now
page-stays k (command i) w e =
    absurd (true≢false (sym w ∙ was_free {q = (traits_of (decode i.byte)).quiet} (not-true _ (every-at 1 _ e)) (allowed k i (every-at 0 _ e)).free))
page-stays k (compose n out) w e = absurd (false≢true e)
page-stays k release w e = inl (rw (accepted-effect k release e) (released-free k))
page-stays k (tally t) w e = inr (rw (accepted-effect k (tally t) e) (refl, refl))

-- The copies of the page that the last deed to complete one gave.
unfoldable pub last_page : List Copy → List Given → List Copy
last_page p [] = p
last_page p (g ∷ gs) = last_page (cond g.answer.ready g.page p) gs

-- After any list of calls, if a page waits, its copies are those.
abbrev pub Shown : Core → Since → Type 0
Shown k s = k.state.sheet.waiting ≡ true → last_page [] s.gave ≡ copies_of_page k

last_one : (p : List Copy) (l : List Given) (x : Given) → last_page p (l ++ (x ∷ [])) ≡ cond x.answer.ready x.page (last_page p l)
unfolding last_page
last_one p [] x = refl
last_one p (y ∷ l) x = last_one (cond y.answer.ready y.page p) l x

shown-note : (k : Core) (s : Since) (c : Call) → Blank k → Shown k s → Shown (effect k c).core (note k s c)
unfolding note given
shown-note k s c z h = go (finishes_reset k c) refl (counts k c) refl k.state.sheet.waiting refl
  where
    go : (p : Bool) → finishes_reset k c ≡ p → (q : Bool) → counts k c ≡ q → (w : Bool) → k.state.sheet.waiting ≡ w → Shown (effect k c).core (note k s c)
    go true ep q eq w ew v = absurd (false≢true (sym (finished-free k c z ep) ∙ v))
    go false ep true eq true ew v = stays (page-stays k c ew eq)
      where
        stays : Free (effect k c).core ⊎ (((effect k c).answer.ready ≡ false) × (copies_of_page (effect k c).core ≡ copies_of_page k))
            → last_page [] (note k s c).gave ≡ copies_of_page (effect k c).core
        stays (inl f) = absurd (false≢true (sym f ∙ v))
        stays (inr (r, same)) = rw (ep, eq, last_one, r, same) (h ew)
    go false ep true eq false ew v =
        let r : (effect k c).answer.ready ≡ true = ready-exactly k c ∙ ap (λ (x : Bool). not x && (effect k c).core.state.sheet.waiting) ew ∙ v in
        rw (ep, eq, last_one, r)
    go false ep false eq w ew v =
        let i : (effect k c).core ≡ k = idle-core k c eq in
        rw (ep, eq, i) (h (sym (ap (λ (x : Core). x.state.sheet.waiting) i) ∙ v))

shown-over : (w : World) (s : Since) (cs : List Call) → Blank w.core → Shown w.core s → Shown (world_after w cs).core (since_over w.core s cs)
unfolding world_after since_over step
shown-over w s [] z h = h
shown-over w s (c ∷ cs) z h = shown-over (step w c).world (note w.core s c) cs (blank-call w.core c z) (shown-note w.core s c z h)

pub waiting-copies : (f : Fixed) (kept : Kept) (w : World) (cs : List Call) → w.core ≡ fresh f kept → Shown (world_after w cs).core (since_reset w cs)
unfolding since_reset fresh reset_state reset_stores blank_sheet
waiting-copies f kept w cs e =
    shown-over w (since_now w.core.state) cs (λ _ _. ap (λ (k : Core). k.stores.page) e)
    (λ v. absurd (false≢true (sym (ap (λ (k : Core). k.state.sheet.waiting) e) ∙ v)))

-- The nth of them is copy n.
pub copy-at : (k : Core) (n : ℕ) (d : Copy) → 1 ≤ n → n ≤ copy_count k.state.copies → get_or (copies_of_page k) (n - 1) d ≡ copy_at k n
unfolding copies_of_page
copy-at k n d l h =
    let m = copy_count k.state.copies in
    get_or-map (copy_at k) 0 d (n - 1) (from 1 m) (rw length_from (omega arith)) ∙ ap (copy_at k) (get_or-from 1 (n - 1) m (omega arith) ∙ omega arith)
