-- Demand 3, the ground: after a finished reset a printer is a function of what Start fixed and what the reset kept, and each later one is what the deeds since
-- then, done again on it, leave.
use mathlib.Core.Path.{◌≡◌, refl, sym, ap, ◌∙◌}
use mathlib.Core.Bool.{Bool, true, false, not, true≢false, false≢true}
use mathlib.Core.List.{List, [], ◌∷◌, ◌++◌, map}
use borrow.Author.Tests.{not-true}
use Rattle.seq.specs.Words.{every, first_or}
use Rattle.seq.proofs.Laws.{every-at}
use Rattle.numbers.specs.declared.Refusal.TheVariants.{Accepted}
use Rattle.numbers.specs.Numbers.{row_of, is_accepted}
use Rattle.calls.specs.declared.Fixed.{Fixed}
use Rattle.calls.specs.declared.Control.TheVariants.{NoOp, SenseIo, Initialize, Clear, Block, Allow, Select}
use Rattle.calls.specs.declared.Command.{Command}
use Rattle.calls.specs.declared.Command.TheVariants.{Write, Move, Controls, Loads, Unlisted}
use Rattle.calls.specs.Core.{Core, World, started}
use Rattle.calls.specs.Commands.{Issued, issued, decode, control_traits, traits_of}
use Rattle.calls.specs.Reset.{blank_sheet, no_cells, Kept, kept_of, reset_state, reset_stores, reset, fresh}
use Rattle.calls.specs.Effects.{Effect, refused, done, completing, do_control, do_command}
use Rattle.calls.specs.Calls.{Call, command, compose, release, tally, command_tests, check_of, refusal_of, do_compose, page_counted, emptied, released, do_release, perform, effect, step}
use Rattle.calls.specs.Premises.{Free}
use Rattle.calls.specs.Lists.{world_after, counts, Deed, commanded, was_released, was_tallied, read_of, deed_of, finishes_reset, Given, given, gives, Since, since_now, note, since_over, since_reset}
use Rattle.calls.proofs.Accepted.{allowed}
use Rattle.calls.proofs.Refused.{accepted-effect, by-outcome}
use Rattle.calls.proofs.Answers.{Shape, sets, quiet, shape, was_free}
use Rattle.calls.proofs.Invariants.{Fixes, fixed-call, Blank, blank-call}

-- What does not count leaves the core: refused calls, No-Op and Sense, Compose.
quiet-core : {k : Core} {c : Command} {i : Issued} {e : Effect} → Shape k c i e → (traits_of c).quiet ≡ true → e.core ≡ k
quiet-core (sets k' q w e) h = absurd (true≢false (sym h ∙ q))
quiet-core (quiet s f q m e) h = ap (λ (x : Effect). x.core) e

-- an accepted command that does not count is quiet
not-counted : {a q : Bool} → a ≡ true → every (a ∷ not q ∷ []) ≡ false → q ≡ true
unfolding every
not-counted {q = true} h e = refl
not-counted {q = false} h e = absurd (true≢false (rw h at e))

pub idle-core : (k : Core) (c : Call) → counts k c ≡ false → (effect k c).core ≡ k
unfolding counts perform do_compose refused
idle-core k (command i) e =
    by-outcome (λ (x : Effect). x.core ≡ k) k (command i) (λ a. quiet-core (shape k (decode i.byte) i (allowed k i a).known) (not-counted a e)) (λ a. refl)
idle-core k (compose n out) e = by-outcome (λ (x : Effect). x.core ≡ k) k (compose n out) (λ a. refl) (λ a. refl)
idle-core k release e = by-outcome (λ (x : Effect). x.core ≡ k) k release (λ a. absurd (true≢false (sym a ∙ e))) (λ a. refl)
idle-core k (tally t) e = by-outcome (λ (x : Effect). x.core ≡ k) k (tally t) (λ a. absurd (true≢false (sym a ∙ e))) (λ a. refl)

-- A deed done again: the reply buffer, and a record that the command ignores, do not matter.
abbrev pub call_of : Deed → Call
call_of (commanded b r) = command (issued b r [])
call_of was_released = release
call_of (was_tallied t) = tally t

abbrev bare : Command → Issued → Issued
bare c i = issued i.byte (read_of c i.sent) []

same_tests : (k : Core) (c : Command) (i : Issued) → (traits_of c).quiet ≡ false
    → first_or Accepted (command_tests k c (bare c i)) ≡ first_or Accepted (command_tests k c i)
unfolding read_of check_of traits_of control_traits
same_tests k (Write m) i e = refl
same_tests k (Move m) i e = refl
same_tests k (Controls NoOp) i e = absurd (true≢false e)
same_tests k (Controls SenseIo) i e = absurd (true≢false e)
same_tests k (Controls Initialize) i e = refl
same_tests k (Controls Clear) i e = refl
same_tests k (Controls Block) i e = refl
same_tests k (Controls Allow) i e = refl
same_tests k (Controls (Select n)) i e = refl
same_tests k (Loads l) i e = refl
same_tests k Unlisted i e = refl

same-doing : (k : Core) (c : Command) (i : Issued) → do_command k c (bare c i) ≡ do_command k c i
unfolding do_command read_of refused row_of
same-doing k (Write m) i = refl
same-doing k (Move m) i = refl
same-doing k (Controls c) i = refl
same-doing k (Loads l) i = refl
same-doing k Unlisted i = refl

again-command : (k : Core) (i : Issued) → (traits_of (decode i.byte)).quiet ≡ false → is_accepted (refusal_of k (command i)) ≡ true
    → effect k (command (bare (decode i.byte) i)) ≡ effect k (command i)
unfolding refusal_of perform
again-command k i q e =
    let c = decode i.byte in
    accepted-effect k (command (bare c i)) (ap is_accepted (same_tests k c i q) ∙ e) ∙ same-doing k c i ∙ sym (accepted-effect k (command i) e)

again : (k : Core) (c : Call) → counts k c ≡ true → effect k (call_of (deed_of c)) ≡ effect k c
unfolding counts deed_of
again k (command i) e = again-command k i (not-true _ (every-at 1 _ e)) (every-at 0 _ e)
again k (compose n out) e = absurd (false≢true e)
again k release e = refl
again k (tally t) e = refl

-- A finished reset leaves a printer that depends on what Start fixed and what the reset kept alone.
is-initialize : (c : Command) → (traits_of c).resets ≡ true → c ≡ Controls Initialize
unfolding traits_of control_traits
is-initialize (Write m) e = absurd (false≢true e)
is-initialize (Move m) e = absurd (false≢true e)
is-initialize (Controls NoOp) e = absurd (false≢true e)
is-initialize (Controls SenseIo) e = absurd (false≢true e)
is-initialize (Controls Initialize) e = refl
is-initialize (Controls Clear) e = absurd (false≢true e)
is-initialize (Controls Block) e = absurd (false≢true e)
is-initialize (Controls Allow) e = absurd (false≢true e)
is-initialize (Controls (Select n)) e = absurd (false≢true e)
is-initialize (Loads l) e = absurd (false≢true e)
is-initialize Unlisted e = absurd (false≢true e)

initialized : (k : Core) (i : Issued) → started k.state.sheet ≡ false → k.stores.page ≡ no_cells
    → (do_command k (Controls Initialize) i).core ≡ fresh k.state.fixed (kept_of k.state)
unfolding do_command do_control completing done reset fresh
initialized k i e p = rw (e, p)

released-due : (k : Core) → k.state.sheet.due ≡ true → released k ≡ fresh k.state.fixed (kept_of (page_counted k).state)
unfolding released page_counted emptied reset fresh
released-due k e = rw e

-- a printer that is as a reset leaves it has what the reset kept
fresh_kept : (f : Fixed) (p : Kept) {k : Core} → k ≡ fresh f p → k ≡ fresh f (kept_of k.state)
unfolding fresh reset_state
fresh_kept f p e = rw e

finished : (k : Core) (c : Call) → Blank k → finishes_reset k c ≡ true → (effect k c).core ≡ fresh k.state.fixed (kept_of (effect k c).core.state)
unfolding finishes_reset counts perform do_release
finished k (command i) h e =
    let a : is_accepted (refusal_of k (command i)) ≡ true = every-at 0 _ (every-at 0 _ e) in
    let q : (traits_of (decode i.byte)).quiet ≡ false = not-true _ (every-at 1 _ (every-at 0 _ e)) in
    let u : started k.state.sheet ≡ false = not-true _ (every-at 2 _ e) in
    let w : Free k = was_free q (allowed k i a).free in
    fresh_kept k.state.fixed (kept_of k.state)
    (ap (λ (x : Effect). x.core) (accepted-effect k (command i) a)
    ∙ ap (λ (c : Command). (do_command k c i).core) (is-initialize (decode i.byte) (every-at 1 _ e))
    ∙ initialized k i u (h w u))
finished k (compose n out) h e = absurd (false≢true e)
finished k release h e =
    fresh_kept k.state.fixed (kept_of (page_counted k).state)
    (ap (λ (x : Effect). x.core) (accepted-effect k release (every-at 0 _ e)) ∙ released-due k (every-at 1 _ e))
finished k (tally t) h e = absurd (false≢true e)

-- after which no page waits
pub finished-free : (k : Core) (c : Call) → Blank k → finishes_reset k c ≡ true → Free (effect k c).core
unfolding fresh reset_state blank_sheet
finished-free k c h e = ap (λ (x : Core). x.state.sheet.waiting) (finished k c h e)

-- Deeds done again, and what they give.
pub redo : Core → List Deed → Core
redo k [] = k
redo k (d ∷ ds) = redo (effect k (call_of d)).core ds

abbrev pub redone : Core → List Deed → List Given
redone k ds = gives k (map call_of ds)

redo-one : (k : Core) (ds : List Deed) (d : Deed) → redo k (ds ++ (d ∷ [])) ≡ (effect (redo k ds) (call_of d)).core
unfolding redo
redo-one k [] d = refl
redo-one k (x ∷ ds) d = redo-one (effect k (call_of x)).core ds d

redone-one : (k : Core) (ds : List Deed) (d : Deed) → redone k (ds ++ (d ∷ [])) ≡ redone k ds ++ (given (redo k ds) (call_of d) ∷ [])
unfolding redo gives
redone-one k [] d = refl
redone-one k (x ∷ ds) d = ap (λ (l : List Given). given k (call_of x) ∷ l) (redone-one (effect k (call_of x)).core ds d)

-- What a list of calls keeps: the core, and what the deeds gave, are those of the deeds since the latest finished reset, done again.
pub record Tracks (f : Fixed) (k : Core) (s : Since) : Type 0 where
  pub core : k ≡ redo (fresh f s.kept) s.deeds
  pub gave : s.gave ≡ redone (fresh f s.kept) s.deeds
  pub fixed : Fixes f k
  pub blank : Blank k

track-note : (f : Fixed) (k : Core) (s : Since) (c : Call) → Tracks f k s → Tracks f (effect k c).core (note k s c)
unfolding note since_now redo gives given
track-note f k s c t = go (finishes_reset k c) refl (counts k c) refl
  where
    go : (p : Bool) → finishes_reset k c ≡ p → (q : Bool) → counts k c ≡ q → Tracks f (effect k c).core (note k s c)
    go true ep q eq =
        rw ep
        (record {
          core = finished k c t.blank ep ∙ ap (λ (g : Fixed). fresh g (kept_of (effect k c).core.state)) t.fixed;
          gave = refl;
          fixed = fixed-call f k c t.fixed;
          blank = blank-call k c t.blank;
        })
    go false ep true eq =
        rw (ep, eq)
        (record {
          core = rw (redo-one, ← t.core, again k c eq);
          gave = rw (redone-one, ← t.gave, ← t.core, again k c eq);
          fixed = fixed-call f k c t.fixed;
          blank = blank-call k c t.blank;
        })
    go false ep false eq = rw (ep, eq, idle-core k c eq) t

track : (f : Fixed) (w : World) (s : Since) (cs : List Call) → Tracks f w.core s → Tracks f (world_after w cs).core (since_over w.core s cs)
unfolding world_after since_over step
track f w s [] t = t
track f w s (c ∷ cs) t = track f (step w c).world (note w.core s c) cs (track-note f w.core s c t)

-- From a printer just started, or just reset.
pub tracked : (f : Fixed) (kept : Kept) (w : World) (cs : List Call) → w.core ≡ fresh f kept → Tracks f (world_after w cs).core (since_reset w cs)
unfolding since_reset since_now redo gives fresh reset_state reset_stores
tracked f kept w cs e =
    track f w (since_now w.core.state) cs
    (record {
      core = e ∙ ap (λ (k : Core). fresh f (kept_of k.state)) (sym e);
      gave = refl;
      fixed = ap (λ (k : Core). k.state.fixed) e;
      blank = λ _ _. ap (λ (k : Core). k.stores.page) e;
    })
