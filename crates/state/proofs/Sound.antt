-- What number 9 asks, part by part as the code looks at it: one conjunction in another order.
use Prim.Native.Nat.{ℕ}
use mathlib.Core.Path.{◌≡◌, refl}
use mathlib.Core.Bool.{Bool, true, false, ◌&&◌, and-true, and-false}
use mathlib.Core.List.{List}
use lib.ListN.{length}
use Rattle.seq.specs.Words.{every}
use Rattle.form.specs.Form.{form_ok, forms_in_range}
use Rattle.line.specs.Cells.{marks_ok}
use Rattle.line.specs.Line.{slots_in_range}
use Rattle.copies.specs.Copies.{copies_in_range}
use Rattle.legends.specs.Legends.{legends_ok}
use Rattle.counters.specs.Counters.{counters_ok}
use Rattle.calls.specs.declared.State.{State}
use Rattle.calls.specs.Core.{Stores, sizes_ok, P}
use Rattle.calls.specs.Contents.{line_ok, ranges_ok, due_ok, written_ok, forms_ok, sequence_ok, core_ok}
use Rattle.seq.proofs.Laws.{and_left, and_right}
use Rattle.printer.specs.Layout.{state_size}
use Rattle.state.specs.State.{state_at, core_at, readable}
use Rattle.state.proofs.Round.{readable-size}
use Rattle.state.specs.Contents.{sound_bytes, state_ok, fields_ok, copies_ok, forms_line_ok}

-- fixed, slots, due, written, counters; copies, sequence; forms, line, FCB
regroup : (f s d m n c q i l b : Bool)
    → ((f && (i && (s && (c && l)))) && (d && (m && (b && (q && n))))) ≡ ((f && (s && (d && (m && n)))) && ((c && q) && (i && (l && b))))
regroup false s d m n c q i l b = refl
regroup true false d m n c q i l b = simp and-false
regroup true true false m n c q i l b = simp and-false
regroup true true true false n c q i l b = simp and-false
regroup true true true true false c q i l b = simp and-false
regroup true true true true true false q i l b = simp and-false
regroup true true true true true true false i l b = simp and-false
regroup true true true true true true true false l b = refl
regroup true true true true true true true true false b = refl
regroup true true true true true true true true true b = and-true b

pub state-parts : (s : State) → state_ok s ≡ (fields_ok s && (copies_ok s && forms_line_ok s))
unfolding state_ok fields_ok copies_ok forms_line_ok ranges_ok every
state-parts s =
    let fixed = form_ok s.fixed.length s.fixed.pitches in
    let x = s.sheet in
    simp and-true
    (regroup fixed (slots_in_range s.slots) (due_ok x) (written_ok x) (counters_ok s.counters) (copies_in_range s.copies) (sequence_ok s)
    (forms_in_range s.forms) (line_ok (P s) x) (forms_ok s))

-- readable, sizes; ranges, due, written, FCB, sequence; legends; counters; the page's marks
reorder : (r z a d m b q l n p : Bool)
    → (r && (z && (a && (d && (m && (b && (q && (l && (n && p))))))))) ≡ (z && (r && ((a && (d && (m && (b && (q && n))))) && (l && p))))
reorder r false a d m b q l n p = and-false r
reorder r true false d m b q l n p = refl
reorder r true true false m b q l n p = refl
reorder r true true true false b q l n p = refl
reorder r true true true true false q l n p = refl
reorder r true true true true true false l n p = refl
reorder r true true true true true true true false p = refl
reorder r true true true true true true true true p = refl
reorder r true true true true true true false false p = refl
reorder r true true true true true true false true p = refl

pub sound-parts : (s : List ℕ) (m : Stores) → sound_bytes s m ≡ (sizes_ok m && (readable s && (state_ok (state_at s) && (legends_ok m.legends && marks_ok m.page))))
unfolding sound_bytes core_ok state_ok every
sound-parts s m =
    let p = state_at s in
    simp and-true
    (reorder (readable s) (sizes_ok m) (ranges_ok p) (due_ok p.sheet) (written_ok p.sheet) (forms_ok p) (sequence_ok p) (legends_ok m.legends) (counters_ok p.counters) (marks_ok m.page))

-- Sound bytes stand for a printer, and are as many as a state has; its contents are good.
pub sound-read : (s : List ℕ) (m : Stores) → sound_bytes s m ≡ true → readable s ≡ true
unfolding sound_bytes
sound-read s m e = and_left (readable s) (core_ok (core_at s m)) e

pub sound-good : (s : List ℕ) (m : Stores) → sound_bytes s m ≡ true → core_ok (core_at s m) ≡ true
unfolding sound_bytes
sound-good s m e = and_right (readable s) (core_ok (core_at s m)) e

pub sound-size : (s : List ℕ) (m : Stores) → sound_bytes s m ≡ true → length s ≡ state_size
sound-size s m e = readable-size s (sound-read s m e)
