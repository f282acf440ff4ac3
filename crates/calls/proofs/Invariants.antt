-- What every call preserves: contents that a printer can have, what Start fixed, the arrays' lengths, and that a page which is neither started nor
-- waiting is all 00. Each is its cases over the changes of Changes.
use Prim.Native.Nat.{ℕ, ◌≤◌}
use mathlib.Core.Path.{◌≡◌, refl, sym, ◌∙◌}
use mathlib.Core.Bool.{true, false, not, ◌&&◌, ◌||◌, true≢false, and-true, or-true}
use mathlib.Core.List.{List}
use mathlib.Core.Logic.{inl, inr}
use native.Mathlib.Omega.{arith}
use lib.ListN.{length, length-set}
use lib.Dec.{eqb, lit≤}
use borrow.Author.Tests.{eqb-true, not-false}
use Rattle.seq.proofs.Laws.{or_left, length-padded}
use Rattle.std.specs.Prelude.{Ok}
use Rattle.numbers.specs.Numbers.{number_of, is_accepted}
use Rattle.form.specs.Form.{start_fcb, fcb_size, forms_of}
use Rattle.form.proofs.FormLaws.{form-listed, fcb-fits, start-sound}
use Rattle.movement.specs.declared.Moved.{Moved}
use Rattle.movement.specs.Movement.{to_top}
use Rattle.movement.proofs.MovementLaws.{down, over, Went, stays, goes}
use Rattle.line.specs.Line.{start_slots}
use Rattle.copies.specs.Copies.{pair_size, with_sequence, with_reference, start_copies}
use Rattle.copies.proofs.CopiesLaws.{sequence-fits}
use Rattle.calls.specs.declared.Fixed.{Fixed}
use Rattle.calls.specs.declared.Sheet.{Sheet}
use Rattle.calls.specs.declared.Load.{Load}
use Rattle.calls.specs.declared.Load.TheVariants.{Fcb, TranslateTable, CopyModification, OverlaySequence, CopyNumber}
use Rattle.calls.specs.Core.{Core, World, started, Stores}
use Rattle.calls.specs.Reset.{blank_sheet, no_cells, Kept, kept_of, reset_state, reset_stores, reset}
use Rattle.calls.specs.Effects.{moved_sheet, written_sheet, written, load_check, slot_loaded, slot_selected, loaded}
use Rattle.calls.specs.Calls.{Call, page_counted, emptied, tallying, effect, step}
use Rattle.calls.specs.Start.{start_refusal, start_world, start_outcome}
use Rattle.calls.specs.declared.Asked.{Asked}
use Rattle.calls.specs.Premises.{FixedGood, Good, Sized, Free}
use Rattle.calls.specs.Lists.{world_after}
use Rattle.calls.proofs.Accepted.{started-world}
use Rattle.calls.proofs.Refused.{no_9}
use Rattle.calls.proofs.Answers.{names, untouched}
use Rattle.calls.proofs.Good.{good-write, good-move, good-complete, good-reset, good-block, good-select, good-load, good-count, good-empty, good-tally, ok, start-good}
use Rattle.calls.proofs.Changes.{Unused, Survives, preserved, preserved-list}

-- Contents that a printer can have.
good-survives : Survives Good
good-survives =
    record {
      write = λ r g f h q. good-write r g f h;
      move = λ m g f h q. good-move m g f h;
      complete = λ due g f q. good-complete due g f;
      reset = λ g f u q. good-reset g;
      block = λ b g q. good-block b g;
      select = λ n g h q. good-select n g h;
      load = λ l r g u e h q. good-load l r g e h;
      count = λ g e q. good-count g e;
      empty = λ g q. good-empty g;
      tally = λ t g e q. good-tally t g e;
    }

pub good-call : (k : Core) (c : Call) → Good k → Good (effect k c).core
good-call = preserved good-survives

pub good-calls : (w : World) (cs : List Call) → Good w.core → Good (world_after w cs).core
good-calls = preserved-list good-survives

-- After an accepted Start no call ever gets 9.
pub never-9 : (a : Asked) (m : Stores) (cs : List Call) (c : Call) → is_accepted (start_refusal a m) ≡ true
    → eqb (number_of (step (world_after (start_outcome a m).world cs) c).answer.refusal) 9 ≡ false
never-9 a m cs c e =
    rw (names (world_after (start_outcome a m).world cs) c, started-world a m e)
    (no_9 _ c (ok _ (good-calls (start_world a) cs (start-good a m e))))

-- What Start fixed.
abbrev pub Fixes : Fixed → Core → Type 0
Fixes f k = k.state.fixed ≡ f

fixes-survives : (f : Fixed) → Survives (Fixes f)
unfolding written reset reset_state page_counted emptied tallying
fixes-survives f =
    record {
      write = λ r g f h q. q;
      move = λ m g f h q. q;
      complete = λ due g f q. q;
      reset = λ g f u q. q;
      block = λ b g q. q;
      select = λ n g h q. q;
      load = λ {k} l r g u e h q. (untouched k l r).fixed ∙ q;
      count = λ g e q. q;
      empty = λ g q. q;
      tally = λ t g e q. q;
    }

pub fixed-call : (f : Fixed) (k : Core) (c : Call) → Fixes f k → Fixes f (effect k c).core
fixed-call f = preserved (fixes-survives f)

-- The lengths of the arrays. A reset sets them anew; what a load takes fits its array.
pub reset-sized : (f : Fixed) (kept : Kept) → FixedGood f → length f.pitches ≡ 4 → Sized (reset_state f kept)
unfolding reset_state forms_of start_slots start_copies
reset-sized f kept e h =
    let l = form-listed f.length f.pitches e in
    record {
      pitches = h;
      loaded = refl;
      pairs = length-padded pair_size _ (lit≤ tt);
      fcb = length-padded fcb_size _ (fcb-fits f.length (start_fcb f.length) l (start-sound f.length l));
    }

load_sized : {k : Core} (l : Load) (r : List ℕ) → Good k → load_check k.state l r ≡ Ok tt → Sized k.state → Sized (loaded k l r).state
unfolding load_check loaded forms_of slot_loaded with_sequence with_reference
load_sized {k} Fcb r g e z =
    let len = k.state.fixed.length in
    let fits = length-padded fcb_size r (fcb-fits len r (form-listed len k.state.fixed.pitches g.fixed) e) in
    search
load_sized TranslateTable r g e z = search length-set
load_sized CopyModification r g e z = z
load_sized OverlaySequence r g e z = let fits = length-padded pair_size r (sequence-fits r e) in search
load_sized CopyNumber r g e z = search

sized-survives : Survives (λ k. Sized k.state)
unfolding written reset page_counted emptied tallying slot_selected
sized-survives =
    record {
      write = λ r g f h q. search;
      move = λ m g f h q. search;
      complete = λ due g f q. search;
      reset = λ {k} g f u q. reset-sized k.state.fixed (kept_of k.state) g.fixed q.pitches;
      block = λ b g q. search;
      select = λ n g h q. search;
      load = λ l r g u e h q. load_sized l r g e q;
      count = λ g e q. search;
      empty = λ g q. search;
      tally = λ t g e q. search;
    }

pub sized-call : (k : Core) (c : Call) → Sized k.state → Sized (effect k c).core.state
sized-call = preserved sized-survives

pub sized-calls : (w : World) (cs : List Call) → Sized w.core.state → Sized (world_after w cs).core.state
sized-calls = preserved-list sized-survives

-- A page that is neither started nor waiting is all 00.
abbrev pub BlankSheet : Sheet → List ℕ → Type 0
BlankSheet s page = s.waiting ≡ false → started s ≡ false → page ≡ no_cells

abbrev pub Blank : Core → Type 0
Blank k = BlankSheet k.state.sheet k.stores.page

-- A write marks the page as started. A movement that goes nowhere leaves the sheet; one that goes down the form leaves line 1; one that goes over P
-- leaves a page waiting.
blank-moved : (s : Sheet) (m : Moved) (page : List ℕ) (p : ℕ) → 1 ≤ s.line → Went p s.line m → BlankSheet s page → BlankSheet (moved_sheet false s m) page
unfolding moved_sheet started
blank-moved s m page p l (stays n e c) h w u =
    let same : (not (eqb s.line 1) || (s.written && true)) ≡ false = rw (e, n, c) at u in
    h (rw e at w) (rw (← and-true s.written) same)
blank-moved s m page p l (goes n (down e c i)) h w u =
    let one : eqb m.line 1 ≡ true = not-false _ (or_left _ (s.written && eqb m.lines 0) (rw e at u)) in
    absurd (omega (arith, eqb-true m.line 1 one))
blank-moved s m page p l (goes n (over e c i)) h w u = absurd (true≢false (rw e at w))

blank-reset : (k : Core) → Free k → Unused k → Blank k → Blank (reset k)
unfolding reset reset_state reset_stores blank_sheet
blank-reset k f (inl u) h w' u' = h f u
blank-reset k f (inr e) h w' u' = e

-- A completed page waits; a load comes to a page that is not started.
blank-survives : Survives Blank
unfolding written written_sheet started moved_sheet to_top page_counted emptied tallying
blank-survives =
    record {
      write = λ {k} r g f h q w u. absurd (true≢false (sym (or-true (not (eqb k.state.sheet.line 1))) ∙ u));
      move = λ {k} m g f h q. blank-moved k.state.sheet m k.stores.page _ g.sheet.low h q;
      complete = λ due g f q w u. absurd (true≢false w);
      reset = λ {k} g f u q. blank-reset k f u q;
      block = λ b g q. q;
      select = λ n g h q. q;
      load = λ {k} l r g u e h q w u'. (untouched k l r).page ∙ q (sym (untouched k l r).waiting ∙ w) u;
      count = λ g e q. q;
      empty = λ g q w u. refl;
      tally = λ t g e q. q;
    }

pub blank-call : (k : Core) (c : Call) → Blank k → Blank (effect k c).core
blank-call = preserved blank-survives
