-- T-03: what calls make of the marks. Each call's change is told; a mark is set by the merge of a character with an underscore alone, and stays until its
-- page is released; and no calls leave another mark than 0 and 1.
use Prim.Native.Nat.{ℕ, ◌≤◌, ◌<◌}
use mathlib.Core.Path.{◌≡◌, refl, sym, ap, ◌∙◌}
use mathlib.Core.Bool.{Bool, true, false, cond, not, ◌&&◌, true≢false, false≢true}
use mathlib.Core.List.{List}
use mathlib.Core.Logic.{inl, inr}
use native.Mathlib.Omega.{arith}
use lib.ListN.{length}
use lib.Dec.{eqb}
use borrow.Author.Tests.{eqb-true, ne_eqb, not-false}
use Rattle.seq.proofs.Laws.{and_both, or_left, or_right, cond_has}
use Rattle.numbers.specs.Sizes.{line_width, page_size}
use Rattle.numbers.specs.Numbers.{is_accepted}
use Rattle.movement.specs.declared.Motion.{Motion}
use Rattle.movement.specs.declared.Moved.{Moved}
use Rattle.movement.specs.Movement.{to_top}
use Rattle.movement.proofs.MovementLaws.{down, over, Went, stays, goes}
use Rattle.line.specs.declared.Cell.{Cell}
use Rattle.line.specs.Cells.{unruled, marks_ok}
use Rattle.line.specs.Line.{merge_cell}
use Rattle.line.specs.Rules.{makes_rule}
use Rattle.line.proofs.LineLaws.{length-line_codes}
use Rattle.line.proofs.RuleLaws.{merged-mark, cell-written, cells-none}
use Rattle.legends.specs.Legends.{line_of}
use Rattle.calls.specs.declared.Sheet.{Sheet}
use Rattle.calls.specs.declared.Control.TheVariants.{NoOp, SenseIo, Initialize, Clear, Block, Allow, Select}
use Rattle.calls.specs.declared.Command.{Command}
use Rattle.calls.specs.declared.Command.TheVariants.{Write, Move, Controls, Loads, Unlisted}
use Rattle.calls.specs.Core.{Stores, Core, started}
use Rattle.calls.specs.Commands.{Issued, decode, traits_of}
use Rattle.calls.specs.Reset.{no_cells, reset_stores, reset, fresh}
use Rattle.calls.specs.Effects.{Effect, refused, done, moved_sheet, written, written_sheet, do_move, do_write, do_load, do_control, do_command}
use Rattle.calls.specs.Calls.{Call, command, compose, release, tally, refusal_of, do_compose, page_counted, emptied, released, do_release, tallying, do_tally, perform, effect}
use Rattle.calls.specs.Start.{start_refusal, start_world, start_outcome}
use Rattle.calls.specs.declared.Asked.{Asked}
use Rattle.calls.specs.Premises.{Good, Allowed, Free}
use Rattle.calls.specs.Lists.{world_after}
use Rattle.calls.specs.Marks.{cell_in, cell_at, sent_at, mark_written, mark_commanded, mark_done, mark_by}
use Rattle.calls.proofs.Accepted.{allowed, started-world}
use Rattle.calls.proofs.Refused.{by-outcome}
use Rattle.calls.proofs.Answers.{untouched, was_free}
use Rattle.calls.proofs.Good.{line-inside, start-good}
use Rattle.calls.proofs.Changes.{Unused, Survives, accepted-good, write-fits, completing-has, preserved-list}
use Rattle.calls.proofs.Invariants.{good-calls}

same-mark : {p q : List ℕ} (n : ℕ) → p ≡ q → (cell_in p n).mark ≡ (cell_in q n).mark
same-mark n e = ap (λ (p : List ℕ). (cell_in p n).mark) e

-- A page of 00 has no marks.
no-mark : (page : List ℕ) (n : ℕ) → page ≡ no_cells → (cell_in page n).mark ≡ 0
unfolding no_cells
no-mark page n e = same-mark n e ∙ ap (λ (c : Cell). c.mark) (cells-none page_size n)

-- A write.
module _ (k : Core) (r : List ℕ) (g : Good k) (fits : length r ≤ line_width) (n : ℕ) where
  write-mark : (cell_at (written k r) n).mark ≡ cond (eqb (line_of n) k.state.sheet.line) (mark_written k r n) (cell_at k n).mark
  unfolding written mark_written
  write-mark =
      let s = k.state.sheet in
      ap (λ (c : Cell). c.mark) (cell-written s.written s.line _ k.stores.page g.sheet.low (line-inside k g) (length-line_codes _ _ r fits) n)
      ∙ go (eqb (line_of n) s.line) s.written
    where
      old : Cell
      old = cell_at k n

      new : ℕ
      new = sent_at k r n

      go : (t later : Bool) → (cond t (cond later (merge_cell old new) (unruled new)) old).mark ≡ cond t (cond later (cond (makes_rule old.code new) 1 old.mark) 0) old.mark
      go true true = merged-mark old new
      go true false = refl
      go false later = refl

-- Every command but a write leaves the page.
command-mark : (k : Core) (c : Command) (i : Issued) (n : ℕ) → Allowed k c i → Good k → (cell_at (do_command k c i).core n).mark ≡ mark_commanded k c i.sent n
unfolding do_command do_control do_write do_move do_load done reset reset_stores refused mark_commanded
command-mark k (Write m) i n a g =
    write-mark k i.sent g (write-fits a) n
command-mark k (Move m) i n a g = refl
command-mark k (Controls NoOp) i n a g = refl
command-mark k (Controls SenseIo) i n a g = refl
command-mark k (Controls Initialize) i n a g = same-mark n (completing-has (λ (x : Core). x.stores.page ≡ k.stores.page) k (reset k) true refl (λ t. refl))
command-mark k (Controls Clear) i n a g = same-mark n (completing-has (λ (x : Core). x.stores.page ≡ k.stores.page) k k false refl (λ t. refl))
command-mark k (Controls Block) i n a g = refl
command-mark k (Controls Allow) i n a g = refl
command-mark k (Controls (Select s)) i n a g = refl
command-mark k (Loads l) i n a g = same-mark n (untouched k l i.sent).page
command-mark k Unlisted i n a g = refl

released-page : (k : Core) → (released k).stores.page ≡ no_cells
unfolding released emptied reset reset_stores
released-page k = cond_has (λ (x : Core). x.stores.page ≡ no_cells) k.state.sheet.due (λ t. refl) (λ t. refl)

-- What a call makes of the mark of a cell.
done-mark : (k : Core) (c : Call) (n : ℕ) → is_accepted (refusal_of k c) ≡ true → (cell_at (perform k c).core n).mark ≡ mark_done k c n
unfolding perform do_compose do_release do_tally tallying mark_done
done-mark k (command i) n e = command-mark k (decode i.byte) i n (allowed k i e) (accepted-good k (command i) e)
done-mark k (compose m out) n e = refl
done-mark k release n e = no-mark (released k).stores.page n (released-page k)
done-mark k (tally t) n e = refl

pub marks-by : (k : Core) (c : Call) (n : ℕ) → (cell_at (effect k c).core n).mark ≡ mark_by k c n
unfolding mark_by refused
marks-by k c n =
    by-outcome (λ (x : Effect). (cell_at x.core n).mark ≡ cond (is_accepted (refusal_of k c)) (mark_done k c n) (cell_at k n).mark) k c
    (λ e. rw e (done-mark k c n e)) (λ e. rw e refl)

-- A mark that a call has set, it set by merging a character with an underscore: it is an accepted write, on the cell's line, which was written before.
pub record Rules (k : Core) (c : Call) (n : ℕ) : Type 0 where
  pub issued : Issued
  pub motion : Motion
  pub is : c ≡ command issued
  pub write : decode issued.byte ≡ Write motion
  pub accepted : is_accepted (refusal_of k c) ≡ true
  pub line : line_of n ≡ k.state.sheet.line
  pub later : k.state.sheet.written ≡ true
  pub rule : makes_rule (cell_at k n).code (sent_at k issued.sent n) ≡ true

pub set-by-merge : (k : Core) (c : Call) (n : ℕ) → (cell_at (effect k c).core n).mark ≡ 1 → ((cell_at k n).mark ≡ 1 → ⊥) → Rules k c n
unfolding mark_by mark_done mark_commanded mark_written
set-by-merge k c n h none = go c (is_accepted (refusal_of k c)) refl (sym (marks-by k c n) ∙ h)
  where
    write : (i : Issued) (m : Motion) (on later rule : Bool) → decode i.byte ≡ Write m → is_accepted (refusal_of k (command i)) ≡ true
        → eqb (line_of n) k.state.sheet.line ≡ on → k.state.sheet.written ≡ later → makes_rule (cell_at k n).code (sent_at k i.sent n) ≡ rule
        → cond on (cond later (cond rule 1 (cell_at k n).mark) 0) (cell_at k n).mark ≡ 1 → Rules k (command i) n
    write i m true true true d a o l r h =
        record { issued = i; motion = m; is = refl; write = d; accepted = a; line = eqb-true (line_of n) k.state.sheet.line o; later = l; rule = r }
    write i m true true false d a o l r h = absurd (none h)
    write i m true false rule d a o l r h = absurd (omega (arith, h))
    write i m false later rule d a o l r h = absurd (none h)

    commanded : (i : Issued) (c : Command) → decode i.byte ≡ c → is_accepted (refusal_of k (command i)) ≡ true → mark_commanded k c i.sent n ≡ 1 → Rules k (command i) n
    commanded i (Write m) d a h =
        write i m (eqb (line_of n) k.state.sheet.line) k.state.sheet.written (makes_rule (cell_at k n).code (sent_at k i.sent n)) d a refl refl refl h
    commanded i (Move m) d a h = absurd (none h)
    commanded i (Controls c) d a h = absurd (none h)
    commanded i (Loads l) d a h = absurd (none h)
    commanded i Unlisted d a h = absurd (none h)

    go : (c : Call) (t : Bool) → is_accepted (refusal_of k c) ≡ t → cond t (mark_done k c n) (cell_at k n).mark ≡ 1 → Rules k c n
    go (command i) true a h = commanded i (decode i.byte) refl a h
    go (compose m out) true a h = absurd (none h)
    go release true a h = absurd (omega (arith, h))
    go (tally t) true a h = absurd (none h)
    go c false a h = absurd (none h)

-- While no page waits, no cell is marked from the current line on, or after it where that is written. So a first write finds no mark.
abbrev UnmarkedSheet : Sheet → ℕ → ℕ → Type 0
UnmarkedSheet s n mark = s.waiting ≡ false → s.line ≤ line_of n → (s.written ≡ true → s.line < line_of n) → mark ≡ 0

abbrev Unmarked : Core → Type 0
Unmarked k = (n : ℕ) → UnmarkedSheet k.state.sheet n (cell_at k n).mark

unmarked-moved : (s : Sheet) (m : Moved) (p n mark : ℕ) → Went p s.line m → UnmarkedSheet s n mark → UnmarkedSheet (moved_sheet false s m) n mark
unfolding moved_sheet
unmarked-moved s m p n mark (stays l e c) h w a x =
    let same : (s.written && eqb m.lines 0) ≡ true → m.line < line_of n = rw e at x in
    h (rw e at w) (rw c at (rw e at a)) (λ y. rw c at (same (and_both y (rw l refl))))
unmarked-moved s m p n mark (goes l (down e c i)) h w a x =
    let below : m.line ≤ line_of n = rw e at a in
    h (rw e at w) (omega arith) (λ y. omega arith)
unmarked-moved s m p n mark (goes l (over e c i)) h w a x = absurd (true≢false (rw e at w))

-- A page not started has line 1 current, and that is not written.
unmarked-unstarted : (s : Sheet) (n mark : ℕ) → s.waiting ≡ false → started s ≡ false → UnmarkedSheet s n mark → mark ≡ 0
unfolding started
unmarked-unstarted s n mark w u h =
    let one : s.line ≡ 1 = eqb-true s.line 1 (not-false _ (or_left _ s.written u)) in
    h w (omega arith) (λ y. absurd (false≢true (sym (or_right (not (eqb s.line 1)) s.written u) ∙ y)))

unmarked-reset : (k : Core) → Free k → Unused k → Unmarked k → Unmarked (reset k)
unfolding reset reset_stores
unmarked-reset k f (inl u) h n w a x = unmarked-unstarted k.state.sheet n _ f u (h n)
unmarked-reset k f (inr e) h n w a x = no-mark k.stores.page n e

-- A write leaves what stands on other lines.
unmarked-write : (k : Core) (r : List ℕ) (n : ℕ) → Good k → Free k → length r ≤ line_width → UnmarkedSheet k.state.sheet n (cell_at k n).mark
    → UnmarkedSheet (written k r).state.sheet n (cell_at (written k r) n).mark
unfolding written written_sheet
unmarked-write k r n g f h q w a x =
    let after : k.state.sheet.line < line_of n = x refl in
    write-mark k r g h n ∙ rw (ne_eqb (line_of n) k.state.sheet.line (λ e. omega (arith, e, after))) (q f (omega (arith, after)) (λ y. after))

unmarked-survives : Survives Unmarked
unfolding written written_sheet to_top moved_sheet page_counted emptied tallying
unmarked-survives =
    record {
      write = λ {k} r g f h q n. unmarked-write k r n g f h (q n);
      move = λ {k} m g f h q n. unmarked-moved k.state.sheet m _ n _ h (q n);
      complete = λ due g f q n w. absurd (true≢false w);
      reset = λ {k} g f u q. unmarked-reset k f u q;
      block = λ b g q. q;
      select = λ n g h q. q;
      load = λ {k} l r g u e h q n w a x. same-mark n (untouched k l r).page ∙ unmarked-unstarted k.state.sheet n _ (sym (untouched k l r).waiting ∙ w) u (q n);
      count = λ g e q. q;
      empty = λ g q n w a x. no-mark no_cells n refl;
      tally = λ t g e q. q;
    }

unmarked-calls : (a : Asked) (m : Stores) (cs : List Call) → is_accepted (start_refusal a m) ≡ true → Unmarked (world_after (start_outcome a m).world cs).core
unfolding start_world fresh reset_stores
unmarked-calls a m cs e = rw (started-world a m e) (preserved-list unmarked-survives (start_world a) cs (λ n w l x. no-mark no_cells n refl))

-- A mark stays through every call but an accepted Release.
kept-mark : (k : Core) (c : Call) (n : ℕ) → Unmarked k → (c ≡ release → is_accepted (refusal_of k c) ≡ false) → (cell_at k n).mark ≡ 1 → mark_by k c n ≡ 1
unfolding mark_by mark_done mark_commanded mark_written traits_of
kept-mark k c n u r h = go c (is_accepted (refusal_of k c)) refl r
  where
    write : (on later rule : Bool) → eqb (line_of n) k.state.sheet.line ≡ on → k.state.sheet.written ≡ later → Free k
        → cond on (cond later (cond rule 1 (cell_at k n).mark) 0) (cell_at k n).mark ≡ 1
    write true true true o l f = refl
    write true true false o l f = h
    write true false rule o l f =
        let line = eqb-true (line_of n) k.state.sheet.line o in
        absurd (omega (arith, h, u n f (omega (arith, line)) (λ y. absurd (false≢true (sym l ∙ y)))))
    write false later rule o l f = h

    commanded : (c : Command) (i : Issued) → Allowed k c i → mark_commanded k c i.sent n ≡ 1
    commanded (Write m) i a =
        write (eqb (line_of n) k.state.sheet.line) k.state.sheet.written (makes_rule (cell_at k n).code (sent_at k i.sent n)) refl refl
        (was_free refl a.free)
    commanded (Move m) i a = h
    commanded (Controls c) i a = h
    commanded (Loads l) i a = h
    commanded Unlisted i a = h

    go : (c : Call) (t : Bool) → is_accepted (refusal_of k c) ≡ t → (c ≡ release → is_accepted (refusal_of k c) ≡ false) → cond t (mark_done k c n) (cell_at k n).mark ≡ 1
    go (command i) true e r = commanded (decode i.byte) i (allowed k i e)
    go (compose m out) true e r = h
    go release true e r = absurd (true≢false (sym e ∙ r refl))
    go (tally t) true e r = h
    go c false e r = h

pub mark-stays : (a : Asked) (m : Stores) (cs : List Call) (c : Call) (n : ℕ) → is_accepted (start_refusal a m) ≡ true
    → (let k = (world_after (start_outcome a m).world cs).core in
    (c ≡ release → is_accepted (refusal_of k c) ≡ false) → (cell_at k n).mark ≡ 1 → (cell_at (effect k c).core n).mark ≡ 1)
mark-stays a m cs c n e r h = marks-by _ c n ∙ kept-mark _ c n (unmarked-calls a m cs e) r h

-- No calls leave a mark but 0 and 1.
pub only-marks : (a : Asked) (m : Stores) (cs : List Call) → is_accepted (start_refusal a m) ≡ true → marks_ok (world_after (start_outcome a m).world cs).core.stores.page ≡ true
only-marks a m cs e = rw (started-world a m e) (good-calls (start_world a) cs (start-good a m e)).marks
