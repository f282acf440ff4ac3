-- T-02: what calls make of the page counters. Each call's change is told; channel less stacker is what was released less what was cancelled and stacked;
-- numbers 12 and 13 are given exactly where the request says.
use Prim.Native.Nat.{ℕ, ◌+◌, ◌-◌}
use mathlib.Core.Path.{◌≡◌, refl, sym, ap, ◌∙◌}
use mathlib.Core.Bool.{Bool, true, false, cond, not, ◌&&◌}
use mathlib.Core.List.{List, [], ◌∷◌}
use native.Mathlib.Omega.{arith}
use mathlib.Core.Logic.{inr}
use lib.Dec.{eqb}
use borrow.Author.Tests.{eq-eqb}
use Rattle.seq.specs.Words.{every, when, first_or}
use Rattle.seq.proofs.Laws.{and_left, and_right, cond_has}
use Rattle.numbers.specs.declared.Refusal.TheVariants.{Accepted, NoPage, BadStore, NoneBetween, MostBetween}
use Rattle.numbers.specs.Numbers.{row_of, number_of, is_accepted}
use Rattle.counters.specs.declared.Counters.{Counters}
use Rattle.counters.specs.declared.Tally.{Tally}
use Rattle.counters.specs.declared.Tally.TheVariants.{Transferred, Fused, Stacked, Cancel, Restart}
use Rattle.counters.specs.Counters.{start_counters, counted, transferred, fused, tallied, none_between, pages_out, most_between}
use Rattle.counters.proofs.CounterLaws.{Reachable, reachable, counted-out, stacked-out, cancelled-out, restarted-out}
use Rattle.calls.specs.declared.Control.TheVariants.{NoOp, SenseIo, Initialize, Clear, Block, Allow, Select}
use Rattle.calls.specs.declared.Load.{Load}
use Rattle.calls.specs.declared.Load.TheVariants.{Fcb, TranslateTable, CopyModification, OverlaySequence, CopyNumber}
use Rattle.calls.specs.declared.Command.{Command}
use Rattle.calls.specs.declared.Command.TheVariants.{Write, Move, Controls, Loads, Unlisted}
use Rattle.calls.specs.Core.{Stores, Core, World}
use Rattle.calls.specs.Commands.{Issued, decode}
use Rattle.calls.specs.Contents.{core_ok}
use Rattle.calls.specs.Reset.{reset_state, reset, fresh}
use Rattle.calls.specs.Effects.{Effect, refused, done, written, loaded, do_move, do_write, do_load, completing, do_control, do_command}
use Rattle.calls.specs.Calls.{Call, command, compose, release, tally, refusal_of, do_compose, page_counted, emptied, released, do_release, tallying, do_tally, perform, effect, step}
use Rattle.calls.specs.Start.{start_refusal, start_world, start_outcome}
use Rattle.calls.specs.declared.Asked.{Asked}
use Rattle.calls.specs.Premises.{Good}
use Rattle.calls.specs.Lists.{world_after}
use Rattle.calls.specs.Pages.{counters_by, Pages, no_pages, pages_by_tally, pages_by, pages_over}
use Rattle.calls.proofs.Accepted.{tally-room, started-world}
use Rattle.calls.proofs.Refused.{accepted-effect, refused-effect, not-given, release-keeps}
use Rattle.calls.proofs.Good.{start-good}
use Rattle.calls.proofs.Changes.{completing-has}
use Rattle.calls.proofs.Invariants.{good-call}

-- No command touches the counters: Initialize, and the reset of either kind, leave them.
load-leaves : (k : Core) (l : Load) (r : List ℕ) → (loaded k l r).state.counters ≡ k.state.counters
unfolding loaded
load-leaves k Fcb r = refl
load-leaves k TranslateTable r = refl
load-leaves k CopyModification r = refl
load-leaves k OverlaySequence r = refl
load-leaves k CopyNumber r = refl

completing-leaves : (k k' : Core) (due : Bool) → k'.state.counters ≡ k.state.counters → (completing k due k').core.state.counters ≡ k.state.counters
completing-leaves k k' due e = completing-has (λ (x : Core). x.state.counters ≡ k.state.counters) k k' due refl (λ t. e)

pub command-leaves : (k : Core) (c : Command) (i : Issued) → (do_command k c i).core.state.counters ≡ k.state.counters
unfolding do_command do_control do_write do_move do_load done written reset reset_state refused
command-leaves k (Write m) i = refl
command-leaves k (Move m) i = refl
command-leaves k (Controls NoOp) i = refl
command-leaves k (Controls SenseIo) i = refl
command-leaves k (Controls Initialize) i = completing-leaves k (reset k) true refl
command-leaves k (Controls Clear) i = completing-leaves k k false refl
command-leaves k (Controls Block) i = refl
command-leaves k (Controls Allow) i = refl
command-leaves k (Controls (Select n)) i = refl
command-leaves k (Loads l) i = load-leaves k l i.sent
command-leaves k Unlisted i = refl

perform-counts : (k : Core) (c : Call) → (perform k c).core.state.counters ≡ counters_by c k.state.counters
unfolding perform do_compose do_release released page_counted emptied reset reset_state do_tally tallying counters_by
perform-counts k (command i) = command-leaves k (decode i.byte) i
perform-counts k (compose n out) = refl
perform-counts k release = cond_has (λ (x : Core). x.state.counters ≡ counted k.state.counters) k.state.sheet.due (λ t. refl) (λ t. refl)
perform-counts k (tally t) = refl

-- Every call: an accepted one does what `counters_by` says, and a refused one nothing.
pub call-counts : (k : Core) (c : Call)
    → (effect k c).core.state.counters ≡ cond (is_accepted (refusal_of k c)) (counters_by c k.state.counters) k.state.counters
unfolding refused
call-counts k c = go (is_accepted (refusal_of k c)) refl
  where
    go : (t : Bool) → is_accepted (refusal_of k c) ≡ t → (effect k c).core.state.counters ≡ cond t (counters_by c k.state.counters) k.state.counters
    go true e = ap (λ (x : Effect). x.core.state.counters) (accepted-effect k c e) ∙ perform-counts k c
    go false e = ap (λ (x : Effect). x.core.state.counters) (refused-effect k c e)

-- Start puts all at zero.
pub start-counts : (a : Asked) (m : Stores) → is_accepted (start_refusal a m) ≡ true → (start_outcome a m).world.core.state.counters ≡ start_counters
unfolding start_world fresh reset_state
start-counts a m e = ap (λ (w : World). w.core.state.counters) (started-world a m e)

-- The law: the pages between channel and stacker, those cancelled and those stacked are together those released, each call keeping it so.
abbrev pub Law : Counters → Pages → Type 0
Law c p = pages_out c + p.cancelled + p.stacked ≡ p.released

law-tally : (t : Tally) (c : Counters) (p : Pages) → Reachable c → none_between t c ≡ false → Law c p → Law (tallied t c) (pages_by_tally t c p)
unfolding tallied pages_by_tally transferred fused
law-tally Transferred c p r e h = h
law-tally Fused c p r e h = h
law-tally Stacked c p r e h = omega (arith, stacked-out r e, h)
law-tally Cancel c p r e h = omega (arith, cancelled-out r, h)
law-tally Restart c p r e h = omega (arith, restarted-out r)

law-perform : (k : Core) (c : Call) (p : Pages) → Good k → is_accepted (refusal_of k c) ≡ true → Law k.state.counters p
    → Law (counters_by c k.state.counters) (pages_by c k.state.counters p)
unfolding pages_by counters_by
law-perform k (command i) p g e h = h
law-perform k (compose n out) p g e h = h
law-perform k release p g e h = omega (arith, counted-out (reachable k.state.counters g.counters), h)
law-perform k (tally t) p g e h = law-tally t k.state.counters p (reachable k.state.counters g.counters) (tally-room k t e) h

law-call : (k : Core) (c : Call) (p : Pages) → Good k → Law k.state.counters p
    → Law (effect k c).core.state.counters (cond (is_accepted (refusal_of k c)) (pages_by c k.state.counters p) p)
law-call k c p g h = rw (call-counts k c) (go (is_accepted (refusal_of k c)) refl)
  where
    go : (t : Bool) → is_accepted (refusal_of k c) ≡ t
        → Law (cond t (counters_by c k.state.counters) k.state.counters) (cond t (pages_by c k.state.counters p) p)
    go true e = law-perform k c p g e h
    go false e = h

law-calls : (w : World) (p : Pages) (cs : List Call) → Good w.core → Law w.core.state.counters p
    → Law (world_after w cs).core.state.counters (pages_over w.core p cs)
unfolding world_after pages_over step
law-calls w p [] g h = h
law-calls w p (c ∷ cs) g h = law-calls (step w c).world _ cs (good-call w.core c g) (law-call w.core c p g h)

start-law : (a : Asked) (m : Stores) (cs : List Call) → is_accepted (start_refusal a m) ≡ true
    → Law (world_after (start_world a) cs).core.state.counters (pages_over (start_world a).core no_pages cs)
unfolding start_world fresh reset_state
start-law a m cs e = law-calls (start_world a) no_pages cs (start-good a m e) refl

-- T-02: channel less stacker, modulo 65,536, is pages released less pages cancelled less pages stacked, for every list of calls from a Start. It is less
-- than 65,536, so that nothing is taken modulo on the right.
pub pages-law : (a : Asked) (m : Stores) (cs : List Call) → is_accepted (start_refusal a m) ≡ true
    → (let w = (start_outcome a m).world in let p = pages_over w.core no_pages cs in
    Law (world_after w cs).core.state.counters p × (pages_out (world_after w cs).core.state.counters ≡ p.released - p.cancelled - p.stacked))
pages-law a m cs e = let h = start-law a m cs e in rw (started-world a m e) (h, omega (arith, h))

-- Number 12 is given exactly to a report, on contents that a printer can have, whose counter equals the one before it.
abbrev pub gets_twelve : Core → Call → Bool
gets_twelve k (command i) = false
gets_twelve k (compose n out) = false
gets_twelve k release = false
gets_twelve k (tally t) = core_ok k && none_between t k.state.counters

pub twelve-exactly : (k : Core) (c : Call) → eqb (number_of (refusal_of k c)) 12 ≡ gets_twelve k c
unfolding refusal_of every first_or when row_of
twelve-exactly k (command i) = not-given 12 k (command i) (inr refl) refl
twelve-exactly k (compose n out) = not-given 12 k (compose n out) (inr refl) refl
twelve-exactly k release = not-given 12 k release (inr refl) refl
twelve-exactly k (tally t) = go (core_ok k) (none_between t k.state.counters)
  where
    go : (ok none : Bool) → eqb (number_of (first_or Accepted (when (not ok) BadStore ∷ when none NoneBetween ∷ []))) 12 ≡ (ok && none)
    go false none = refl
    go true true = refl
    go true false = refl

-- Number 13 exactly to a Release, on contents that a printer can have, while a page waits and 32,767 are between channel and stacker.
abbrev pub gets_thirteen : Core → Call → Bool
gets_thirteen k (command i) = false
gets_thirteen k (compose n out) = false
gets_thirteen k release = core_ok k && (k.state.sheet.waiting && most_between k.state.counters)
gets_thirteen k (tally t) = false

pub thirteen-exactly : (k : Core) (c : Call) → eqb (number_of (refusal_of k c)) 13 ≡ gets_thirteen k c
unfolding refusal_of every first_or when row_of
thirteen-exactly k (command i) = not-given 13 k (command i) (inr refl) refl
thirteen-exactly k (compose n out) = not-given 13 k (compose n out) (inr refl) refl
thirteen-exactly k release = go (core_ok k) k.state.sheet.waiting (most_between k.state.counters)
  where
    go : (ok waits most : Bool)
        → eqb (number_of (first_or Accepted (when (not ok) BadStore ∷ when (not waits) NoPage ∷ when most MostBetween ∷ []))) 13 ≡ (ok && (waits && most))
    go false waits most = refl
    go true false most = refl
    go true true true = refl
    go true true false = refl
thirteen-exactly k (tally t) = not-given 13 k (tally t) (inr refl) refl

-- Then nothing has changed: the page still waits, and its copies and the counters are as they were.
pub thirteen-waits : (w : World) → number_of (refusal_of w.core release) ≡ 13
    → ((step w release).world ≡ w) × ((step w release).world.core.state.sheet.waiting ≡ true)
unfolding is_accepted
thirteen-waits w e =
    let same = release-keeps w (ap (λ (n : ℕ). eqb n 0) e) in
    (same, ap (λ (v : World). v.core.state.sheet.waiting) same ∙ and_left _ _ (and_right (core_ok w.core) _ (sym (thirteen-exactly w.core release) ∙ eq-eqb _ _ e)))
