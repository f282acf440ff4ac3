-- Document 01, "Numbers": contents that a printer can have, part by part. They are just those that get no 9; Start and a reset leave such, and so does each
-- change that a call makes (Changes has the list of these).
use Prim.Native.Nat.{ℕ, ◌*◌, ◌≤◌, zero, suc}
use mathlib.Core.Path.{◌≡◌, refl, ap, ◌∙◌}
use mathlib.Core.Bool.{Bool, true, false, not, ◌&&◌, and-false, or-true}
use mathlib.Core.List.{List, [], ◌∷◌}
use native.Mathlib.Omega.{arith}
use lib.ListN.{length, length-replicate, get_or, set, take}
use lib.Dec.{lit≤, eqb}
use lib.Seq.{length-take-le}
use borrow.Author.Tests.{eqb-true, eq-eqb, leb-true, le-leb}
use Rattle.seq.specs.Words.{every, when, first_or, listed, padded}
use Rattle.std.specs.Prelude.{Ok}
use Rattle.seq.proofs.Laws.{every-at, padded-take, padded-zero, cond_has, finally, also, every_of}
use Rattle.numbers.specs.Sizes.{line_bytes, page_lines, page_size, legend_size, line_width, slot_size, table_size}
use Rattle.numbers.specs.Numbers.{is_accepted}
use Rattle.numbers.proofs.Laws.{sound-is}
use Rattle.form.specs.declared.Layout.{Layout}
use Rattle.form.specs.Form.{form_lengths, fcb_check, layout_of, printable, start_fcb, fcb_size, fcb_now, forms_of, forms_in_range}
use Rattle.form.proofs.FormLaws.{form-listed, fcb-fits, few-lines, some-line, start-sound}
use Rattle.movement.specs.declared.Motion.{Motion}
use Rattle.movement.specs.declared.Moved.{Moved}
use Rattle.movement.specs.Movement.{still, to_top}
use Rattle.movement.proofs.MovementLaws.{down, over, Went, stays, goes, went}
use Rattle.line.specs.declared.Slots.{Slots}
use Rattle.line.specs.Cells.{marks_ok}
use Rattle.line.specs.Line.{start_slots, slots_in_range, serving, translated}
use Rattle.line.proofs.LineLaws.{length-start_tables, length-translated, length-line_codes, length-page_written, length-put_slot}
use Rattle.line.proofs.RuleLaws.{marks-written, marks-none}
use Rattle.copies.specs.declared.Copies.{Copies}
use Rattle.copies.specs.Copies.{pairs_of, copies_of, sequence_check, start_copies, copies_in_range, pair_size, number_check, with_sequence, with_reference}
use Rattle.copies.proofs.CopiesLaws.{table-long, sequence-fits, number-some}
use Rattle.legends.specs.Legends.{no_legends}
use Rattle.legends.proofs.LegendLaws.{none-ok, stored-size, stored_ok}
use Rattle.counters.specs.declared.Counters.{Counters}
use Rattle.counters.specs.declared.Tally.{Tally}
use Rattle.counters.specs.Counters.{none_between, most_between, counters_ok}
use Rattle.counters.proofs.CounterLaws.{reachable, reachable-ok, start-ok, counted-reachable, tallied-reachable}
use Rattle.calls.specs.declared.Fixed.{Fixed}
use Rattle.calls.specs.declared.Sheet.{Sheet}
use Rattle.calls.specs.declared.State.{State}
use Rattle.calls.specs.declared.Load.{Load}
use Rattle.calls.specs.declared.Load.TheVariants.{Fcb, TranslateTable, CopyModification, OverlaySequence, CopyNumber}
use Rattle.calls.specs.Core.{Stores, Core, sizes_ok, lines_now, P, laid_out, with_state, with_page, with_tables, with_blocked, with_slots, with_copies, with_sheet, with_counters}
use Rattle.calls.specs.Contents.{line_ok, ranges_ok, due_ok, written_ok, core_ok}
use Rattle.calls.specs.Reset.{blank_sheet, no_cells, Kept, kept_of, reset_state, reset_stores, reset, fresh}
use Rattle.calls.specs.Effects.{moved_sheet, moved_core, move_of, at_once, written_sheet, written, load_check, at_line1, slot_loaded, slot_selected, loaded}
use Rattle.calls.specs.Calls.{page_counted, emptied, tallying}
use Rattle.calls.specs.Start.{fixed_by, start_refusal, start_kept, start_world}
use Rattle.calls.specs.declared.Asked.{Asked}
use Rattle.calls.specs.Premises.{Sizes, FormsGood, CopiesGood, SheetGood, FixedGood, Good, Free}
use Rattle.calls.proofs.Standing.{at-once-has}
use Rattle.calls.proofs.Accepted.{startable}

-- They are just the contents that get no 9.
pub sizes-good : (m : Stores) → sizes_ok m ≡ true → Sizes m
unfolding sizes_ok
sizes-good m e = record { page = eqb-true _ _ (every-at 0 _ e); legends = eqb-true _ _ (every-at 1 _ e); tables = eqb-true _ _ (every-at 2 _ e) }

sizes-ok : (m : Stores) → Sizes m → sizes_ok m ≡ true
unfolding sizes_ok every
sizes-ok m s = rw (eq-eqb _ _ s.page, eq-eqb _ _ s.legends, eq-eqb _ _ s.tables)

line_ok_lem : (p : ℕ) (s : Sheet) → 1 ≤ s.line → s.line ≤ p → line_ok p s ≡ true
unfolding line_ok every
line_ok_lem p s a b = rw (le-leb 1 s.line a, le-leb s.line p b)

pub good : (k : Core) → core_ok k ≡ true → Good k
unfolding core_ok ranges_ok line_ok
good k e =
    let r = every-at 1 _ e in
    let l = every-at 4 _ r in
    record {
      sizes = sizes-good k.stores (every-at 0 _ e);
      fixed = every-at 0 _ r;
      forms = record { range = every-at 1 _ r; sound = sound-is _ (every-at 4 _ e) };
      slots = every-at 2 _ r;
      copies = record { range = every-at 3 _ r; sound = sound-is _ (every-at 5 _ e) };
      sheet = record { low = leb-true _ _ (every-at 0 _ l); high = leb-true _ _ (every-at 1 _ l); due = every-at 2 _ e; written = every-at 3 _ e };
      legends = every-at 6 _ e;
      counters = every-at 7 _ e;
      marks = every-at 8 _ e;
    }

pub ok : (k : Core) → Good k → core_ok k ≡ true
unfolding core_ok ranges_ok every
ok k g =
    let x = g.sheet in
    rw (sizes-ok _ g.sizes, g.fixed, g.forms.range, g.slots, g.copies.range, line_ok_lem _ k.state.sheet x.low x.high, x.due, x.written, g.forms.sound, g.copies.sound, g.legends, g.counters, g.marks)

-- Forms control that its load takes is kept as it was sent, and has a line 1.
pub forms-now : (r : List ℕ) → fcb_now (forms_of r) ≡ r
unfolding forms_of
forms-now r = padded-take fcb_size r

module _ (len : ℕ) (r : List ℕ) (l : listed form_lengths len ≡ true) (e : fcb_check len r ≡ Ok tt) where
  pub forms-good : FormsGood len (forms_of r)
  unfolding forms_in_range forms_of every
  forms-good =
      record { range = rw (le-leb (length r) fcb_size (fcb-fits len r l e), padded-zero fcb_size r); sound = rw (padded-take fcb_size r) e }

  pub forms-line : 1 ≤ length (printable len (fcb_now (forms_of r)))
  forms-line = rw (forms-now r) (some-line len r l e)

pub blank-good : (p l : ℕ) → 1 ≤ l → l ≤ p → SheetGood p (blank_sheet l)
unfolding blank_sheet due_ok written_ok
blank-good p l a b = record { low = a; high = b; due = refl; written = refl }

pub length-no_cells : length no_cells ≡ page_size
unfolding no_cells
length-no_cells = length-replicate {A = ℕ} page_size 0

no-marks : marks_ok no_cells ≡ true
unfolding no_cells
no-marks = marks-none page_size

-- A reset leaves such contents, and so do Start and a finished reset.
module _ (f : Fixed) (kept : Kept) (page : List ℕ) (e : FixedGood f) (size : length page ≡ page_size) (counters : counters_ok kept.counters ≡ true)
    (marks : marks_ok page ≡ true) where
  pub reset-good : Good (record { state = reset_state f kept; stores = reset_stores page })
  unfolding reset_state reset_stores lines_now no_legends start_slots slots_in_range start_copies copies_in_range sequence_check pairs_of copies_of every padded first_or when
  reset-good =
      let l : listed form_lengths f.length ≡ true = form-listed f.length f.pitches e in
      record {
        sizes = record { page = size; legends = length-replicate {A = ℕ} legend_size 0; tables = length-start_tables };
        fixed = e;
        forms = forms-good f.length (start_fcb f.length) l (start-sound f.length l);
        slots = refl;
        copies = record { range = refl; sound = refl };
        sheet = blank-good _ 1 (lit≤ tt) (forms-line f.length (start_fcb f.length) l (start-sound f.length l));
        legends = none-ok;
        counters = counters;
        marks = marks;
      }

pub start-good : (a : Asked) (m : Stores) → is_accepted (start_refusal a m) ≡ true → Good (start_world a).core
unfolding start_world fresh
start-good a m e = reset-good (fixed_by a) start_kept no_cells (startable a m e).form length-no_cells start-ok no-marks

-- The printable lines of a form that is laid out are P.
pub form-lines : (s : State) (w : Layout) → w ≡ laid_out s → w.lines ≡ P s
unfolding lines_now layout_of
form-lines s w e = ap (λ (v : Layout). v.lines) e

-- They are no more than a page has room for.
pub few-now : (k : Core) → Good k → P k.state ≤ page_lines
unfolding lines_now
few-now k g =
    let f = k.state.fixed in
    few-lines f.length _ (form-listed f.length f.pitches g.fixed) g.forms.sound

-- The current line is inside the page.
pub line-inside : (k : Core) → Good k → line_bytes * k.state.sheet.line ≤ length k.stores.page
line-inside k g = omega (arith, few-now k g, g.sheet.high, g.sizes.page)

-- The core with another sheet and page, other slots and tables, other copies.
with-sheet : {k : Core} (x : Sheet) (p : List ℕ) → Good k → SheetGood (P k.state) x → length p ≡ page_size → marks_ok p ≡ true
    → Good (with_page (with_state k (with_sheet k.state x)) p)
unfolding lines_now
with-sheet x p g h e m = search

with-slots : {k : Core} (s : Slots) (t : List ℕ) → Good k → slots_in_range s ≡ true → length t ≡ table_size
    → Good (with_tables (with_state k (with_slots k.state s)) t)
unfolding lines_now
with-slots s t g h e = search

with-copies : {k : Core} (c : Copies) → Good k → CopiesGood c → Good (with_state k (with_copies k.state c))
unfolding lines_now
with-copies c g h = search

-- A write, and a movement, while no page waits.
pub good-write : {k : Core} (r : List ℕ) → Good k → Free k → length r ≤ line_width → Good (written k r)
unfolding written written_sheet written_ok due_ok
good-write {k} r g w h =
    let s = g.sheet in
    let line = k.state.sheet.line in
    let later = k.state.sheet.written in
    let inside = line-inside k g in
    let size = length-line_codes _ _ r h in
    with-sheet _ _ g (record { low = s.low; high = s.high; due = s.due; written = rw w })
    (length-page_written line k.stores.page s.low inside later _ size ∙ g.sizes.page)
    (marks-written later line _ k.stores.page s.low inside size g.marks)

pub move-went : {k : Core} (m : Motion) → Good k → Went (P k.state) k.state.sheet.line (move_of k.state m)
unfolding move_of
move-went {k} m g = let s = g.sheet in went (lines_now k.state) k.state.sheet.line s.high (omega (arith, s.low, s.high)) m

-- T-05: whether it stands or moves.
pub at-once-went : {k : Core} (m : Motion) → Good k → Went (P k.state) k.state.sheet.line (at_once k.state m)
unfolding still
at-once-went {k} m g = at-once-has (Went (P k.state) k.state.sheet.line) k.state m (stays refl refl refl) (move-went m g)

went_on : {p c : ℕ} {m : Moved} → 1 ≤ c → c ≤ p → Went p c m → (1 ≤ m.line) × (m.line ≤ p)
went_on a b (stays l n e) = (omega arith, omega arith)
went_on a b (goes l (down f h i)) = (omega arith, i)
went_on a b (goes l (over f h i)) = (h, i)

moved-good : {k : Core} (due : Bool) (m : Moved) → Good k → Free k → (1 ≤ m.line) × (m.line ≤ P k.state) → Good (moved_core due k m)
unfolding moved_sheet due_ok written_ok
moved-good {k} due m g w h =
    let s = k.state.sheet in
    with-sheet _ k.stores.page g
    (cond_has (SheetGood (P k.state)) (eqb m.pages 0)
    (λ t. record { low = h.0; high = h.1; due = g.sheet.due; written = rw (w, and-false (s.written && eqb m.lines 0)) })
    (λ t. record { low = h.0; high = h.1; due = or-true (not due); written = refl }))
    g.sizes.page g.marks

pub good-move : {k : Core} (m : Moved) → Good k → Free k → Went (P k.state) k.state.sheet.line m → Good (moved_core false k m)
good-move m g w h = moved-good false m g w (went_on g.sheet.low g.sheet.high h)

-- A page completed by Clear or Initialize; the reset; a page released.
pub good-complete : {k : Core} (due : Bool) → Good k → Free k → Good (moved_core due k to_top)
unfolding to_top
good-complete due g w = moved-good due to_top g w (lit≤ tt, omega (arith, g.sheet.low, g.sheet.high))

pub good-reset : {k : Core} → Good k → Good (reset k)
unfolding reset
good-reset {k} g = reset-good k.state.fixed (kept_of k.state) k.stores.page g.fixed g.sizes.page g.counters g.marks

pub good-empty : {k : Core} → Good k → Good (emptied k)
unfolding emptied
good-empty {k} g = with-sheet _ no_cells g (blank-good _ k.state.sheet.line g.sheet.low g.sheet.high) length-no_cells no-marks

-- Other counters that calls can lead to: a page counted, and what a report, a cancel or a restart makes of them.
with-counters : {k : Core} (c : Counters) → Good k → counters_ok c ≡ true → Good (with_state k (with_counters k.state c))
unfolding lines_now
with-counters c g h = search

pub good-count : {k : Core} → Good k → most_between k.state.counters ≡ false → Good (page_counted k)
unfolding page_counted
good-count {k} g e = with-counters _ g (reachable-ok (counted-reachable (reachable k.state.counters g.counters) e))

pub good-tally : {k : Core} (t : Tally) → Good k → none_between t k.state.counters ≡ false → Good (tallying k t)
unfolding tallying
good-tally {k} t g e = with-counters _ g (reachable-ok (tallied-reachable (reachable k.state.counters g.counters) t e))

-- The switch, and another slot selected.
pub good-block : {k : Core} (b : Bool) → Good k → Good (with_state k (with_blocked k.state b))
unfolding lines_now
good-block b g = search

pub good-select : {k : Core} (n : ℕ) → Good k → n ≤ 3 → Good (with_state k (with_slots k.state (slot_selected k.state.slots n)))
unfolding slots_in_range slot_selected
good-select {k} n g h = with-slots _ k.stores.tables g (every_of (also (every-at 0 _ g.slots) (also (le-leb n 3 h) finally))) g.sizes.tables

-- The five loads.
set_first : (l : List Bool) (i : ℕ) → get_or l 0 false ≡ true → get_or (set l i true) 0 false ≡ true
set_first [] i e = e
set_first (x ∷ xs) zero e = refl
set_first (x ∷ xs) (suc i) e = e

slot-loaded : (s : Slots) → slots_in_range s ≡ true → slots_in_range (slot_loaded s) ≡ true
unfolding slots_in_range slot_loaded
slot-loaded s e = every_of (also (set_first s.loaded s.selected (every-at 0 _ e)) (also (every-at 1 _ e) finally))

slot_of : (s : Slots) → slots_in_range s ≡ true → s.selected ≤ 3
unfolding slots_in_range
slot_of s e = leb-true _ _ (every-at 1 _ e)

sequence-good : {c : Copies} (r : List ℕ) → sequence_check r ≡ Ok tt → CopiesGood c → CopiesGood (with_sequence c r)
unfolding copies_in_range with_sequence
sequence-good r e g =
    record {
      range = every_of (also (le-leb _ _ (sequence-fits r e)) (also (padded-zero pair_size r) (also (every-at 2 _ g.range) finally)));
      sound = rw (padded-take pair_size r) e;
    }

reference-good : {c : Copies} (r : List ℕ) → number_check r ≡ Ok tt → CopiesGood c → CopiesGood (with_reference c (get_or r 0 0))
unfolding copies_in_range with_reference
reference-good r e g =
    record {
      range = every_of (also (every-at 0 _ g.range) (also (every-at 1 _ g.range) (also (le-leb _ _ (number-some r e)) finally)));
      sound = g.sound;
    }

pub good-load : {k : Core} (l : Load) (r : List ℕ) → Good k → load_check k.state l r ≡ Ok tt → length r ≤ legend_size → Good (loaded k l r)
unfolding load_check loaded lines_now at_line1 due_ok written_ok
good-load {k} Fcb r g e h =
    let len = k.state.fixed.length in
    let l = form-listed len k.state.fixed.pitches g.fixed in
    let f = forms-good len r l e in
    let line = forms-line len r l e in
    let low : 1 ≤ 1 = lit≤ tt in
    search
good-load {k} TranslateTable r g e h =
    with-slots _ _ g (slot-loaded k.state.slots g.slots)
    (length-put_slot k.state.slots.selected (take slot_size r) k.stores.tables (slot_of k.state.slots g.slots)
    (length-take-le slot_size r (table-long r e)) g.sizes.tables)
good-load {k} CopyModification r g e h =
    let t = translated k.state.fixed.pitches (serving k.state.slots k.stores.tables) in
    let size = stored-size t (length-translated _ _) r e h in
    let fine = stored_ok t (length-translated _ _) r e h in
    search
good-load OverlaySequence r g e h = with-copies _ g (sequence-good r e g.copies)
good-load CopyNumber r g e h = with-copies _ g (reference-good r e g.copies)
