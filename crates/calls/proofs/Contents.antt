-- Document 01, "Numbers" and "Commands", by computation: each clause of "contents no printer has" is a test of its own, what is allowed
-- is allowed, Start's refusals come in their order, and 46 bytes are commands.
use Prim.Native.Nat.{ℕ, zero, suc, ◌+◌, ◌*◌, ◌-◌}
use mathlib.Core.Path.{◌≡◌, refl}
use mathlib.Core.Bool.{Bool, true, false, cond, not}
use mathlib.Core.List.{List, [], ◌∷◌, ◌++◌, map, flatten}
use lib.ListN.{length, set, replicate}
use Rattle.seq.specs.Words.{when, first_or, every, from, zeros, padded}
use Rattle.numbers.specs.Sizes.{line_width, line_bytes, page_lines, page_size, legend_size, table_size}
use Rattle.numbers.specs.Numbers.{row_of, number_of}
use Rattle.form.specs.Form.{form_lengths, pitches_listed, pitches_ok, form_ok, units_of, runs_from, runs, units_total, lines_where, printable, edges, fcb_check, layout_check, layout_of, start_fcb, fcb_size, forms_of, forms_in_range}
use Rattle.line.specs.Cells.{ruled, stored, cells_in, marks_ok}
use Rattle.line.specs.Line.{start_table, start_tables, start_slots, slots_in_range}
use Rattle.copies.specs.Copies.{pair_size, pairs_of, copies_of, sequence_check, start_copies, copies_in_range}
use Rattle.legends.specs.Legends.{bad_head, cut, segments, legend_check, stored_segments, legends_ok, no_legends}
use Rattle.counters.specs.Counters.{counters, counters_ok}
use Rattle.calls.specs.Core.{Stores, Core, sizes_ok, with_state, with_page, with_legends, with_tables, with_forms, with_slots, with_copies, with_sheet, with_counters, lines_now}
use Rattle.calls.specs.Commands.{codes, look_up, decode, is_unlisted}
use Rattle.calls.specs.Contents.{line_ok, ranges_ok, due_ok, written_ok, clauses, core_ok}
use Rattle.calls.specs.Reset.{blank_sheet, no_cells, reset_state, reset_stores, fresh}
use Rattle.calls.specs.Start.{asked, start_kept, skip_ok, start_refusal}

-- A printer just started, and the same with one part replaced.
abbrev with-form : ℕ → List ℕ → Core
with-form len ps = fresh (record { length = len; pitches = ps; old = false }) start_kept

abbrev mixed : List ℕ
mixed = 10 ∷ 0 ∷ 12 ∷ 15 ∷ []

abbrev k84 : Core
k84 = with-form 84 mixed

abbrev with-sheet : ℕ → Bool → Bool → Bool → Core
with-sheet l x w d = with_state k84 (with_sheet k84.state (record { line = l; written = x; waiting = w; due = d }))

abbrev with-fcb : List ℕ → ℕ → Core
with-fcb f n = with_state k84 (with_forms k84.state (record { fcb = f; count = n }))

abbrev with-slots : Bool → ℕ → Core
with-slots zeroth n = with_state k84 (with_slots k84.state (record { loaded = zeroth ∷ false ∷ true ∷ false ∷ []; selected = n }))

abbrev with-copies : List ℕ → ℕ → ℕ → Core
with-copies ps n r = with_state k84 (with_copies k84.state (record { pairs = ps; count = n; reference = r }))

abbrev with-legends : List ℕ → Core
with-legends l = with_legends k84 (padded legend_size l)

abbrev with-counters : ℕ → ℕ → ℕ → ℕ → Core
with-counters c t f s = with_state k84 (with_counters k84.state (counters c t f s))

abbrev fcb84 : List ℕ
fcb84 = k84.state.forms.fcb

abbrev one : List ℕ
one = k84.state.copies.pairs

-- n segments of 210 bytes; 39 of them take 8,190
abbrev full : ℕ → List ℕ
full zero = []
full (suc n) = 1 ∷ 1 ∷ 1 ∷ 1 ∷ 1 ∷ 0xCC ∷ (zeros line_width ++ full n)

-- Contents no printer has, with the place in `clauses` of the one clause that they break.
pub record Broken : Type 0 where
  pub core : Core
  pub clause : ℕ

abbrev breaks : ℕ → Core → Broken
breaks n k = record { core = k; clause = n }

unfoldable pub broken : List Broken
broken =
    -- a lent store of wrong size
    breaks 0 (with_page k84 (zeros (page_size - 1))) ∷ breaks 0 (with_page k84 (zeros (page_size + 1))) ∷ breaks 0 (with_legends k84 (zeros (legend_size - 1))) ∷ breaks 0 (with_tables k84 (zeros (table_size + 1)))
    -- a field outside its range: form and pitches
    ∷ breaks 1 (with-form 108 (10 ∷ 10 ∷ 10 ∷ 10 ∷ [])) ∷ breaks 1 (with-form 84 (10 ∷ 11 ∷ 10 ∷ 10 ∷ [])) ∷ breaks 1 (with-form 84 (0 ∷ 10 ∷ 10 ∷ 10 ∷ []))
    -- a count and the bytes after it
    ∷ breaks 1 (with-fcb (set fcb84 (fcb_size - 1) 1) 21) ∷ breaks 1 (with-copies (set one (pair_size - 1) 1) 2 1) ∷ breaks 1 (with-copies (1 ∷ 0 ∷ flatten (replicate 7 (1 ∷ 1 ∷ []))) (pair_size + 1) 1)
    -- slot 0, the selection, the copy number
    ∷ breaks 1 (with-slots false 0) ∷ breaks 1 (with-slots true 4) ∷ breaks 1 (with-copies one 2 0)
    -- the current line
    ∷ breaks 1 (with-sheet 0 false false false) ∷ breaks 1 (with-sheet 16 false false false)
    -- a reset due with no page waiting; a line marked written while a page waits
    ∷ breaks 2 (with-sheet 1 false false true) ∷ breaks 3 (with-sheet 1 true true false)
    -- forms control that its load would refuse
    ∷ breaks 4 (with-fcb fcb84 20) ∷ breaks 4 (with-fcb (set fcb84 0 1) 21) ∷ breaks 4 (with-fcb (set fcb84 4 0x0D) 21)
    -- an overlay sequence that its load would refuse
    ∷ breaks 5 (with-copies (zeros pair_size) 0 1) ∷ breaks 5 (with-copies (set one 1 2) 2 1) ∷ breaks 5 (with-copies (1 ∷ zeros (pair_size - 1)) 1 1)
    -- legends that their load would refuse
    ∷ breaks 6 (with-legends (1 ∷ 1 ∷ 1 ∷ 1 ∷ 0xCD ∷ 1 ∷ 0 ∷ [])) ∷ breaks 6 (with-legends (full 39 ++ 1 ∷ [])) ∷ breaks 6 (with-legends (full 38 ++ 1 ∷ 1 ∷ 1 ∷ 1 ∷ 1 ∷ 0xCD ∷ []))
    -- a byte other than 00 after them
    ∷ breaks 6 (with-legends (0 ∷ 1 ∷ [])) ∷ breaks 6 (with-legends (1 ∷ 1 ∷ 1 ∷ 1 ∷ 1 ∷ 1 ∷ 0 ∷ 0 ∷ 1 ∷ []))
    -- counters that no calls lead to: a page ahead of transfer, of fuser, of stacker; one too many out; three bytes
    ∷ breaks 7 (with-counters 5 6 5 5) ∷ breaks 7 (with-counters 6 5 6 5) ∷ breaks 7 (with-counters 5 5 5 6) ∷ breaks 7 (with-counters 0 0 0 0x8000) ∷ breaks 7 (with-counters 0x10000 0 0 0)
    -- a mark that is neither 0 nor 1: in the first cell, in the first one past line P, in the last one
    ∷ breaks 8 (with_page k84 (set (zeros page_size) 1 2)) ∷ breaks 8 (with_page k84 (set (zeros page_size) (line_bytes * 15 + 1) 0x80)) ∷ breaks 8 (with_page k84 (set (zeros page_size) (page_size - 1) 0xFF))
    ∷ []

-- Contents that are not on the list: a page that waits with the form at any line, a form at 8 lines per inch, all copies, full legends,
-- any codes in the cells and their marks, any table bytes, counters before and after the wrap and with as many pages out as there may be.
unfoldable pub unbroken : List Core
unbroken =
    k84
    ∷ with-sheet 15 true false false ∷ with-sheet 15 false true true ∷ with-sheet 5 false true false
    ∷ with-fcb (padded fcb_size (replicate 28 0x10)) 28 ∷ with-slots true 3 ∷ with-copies (255 ∷ 1 ∷ zeros (pair_size - 2)) 2 255
    ∷ with_page k84 (stored (replicate (page_lines * line_width) (ruled 0xFF))) ∷ with_tables k84 (replicate table_size 0xFF)
    ∷ with-legends (1 ∷ 1 ∷ 1 ∷ 1 ∷ 0xCC ∷ 1 ∷ 0 ∷ []) ∷ with-legends (full 39)
    ∷ with-counters 7 6 6 5 ∷ with-counters 1 0 0xFFFF 0xFFFE ∷ with-counters 0x7FFE 0x7FFE 0xFFFF 0xFFFF
    ∷ []

-- Broken contents break the one clause, and no other; what is allowed breaks none.
pub clauses-table : (map (λ b. clauses b.core) broken ≡ map (λ b. set (replicate 9 true) b.clause false) broken)
    × (map clauses unbroken ≡ replicate 14 (replicate 9 true))
unfolding broken unbroken flatten when first_or every padded form_lengths pitches_listed pitches_ok form_ok units_of runs_from runs units_total lines_where printable edges fcb_check layout_check layout_of start_fcb forms_of forms_in_range start_table start_tables start_slots slots_in_range pairs_of copies_of sequence_check start_copies copies_in_range bad_head cut segments legend_check stored_segments legends_ok no_legends sizes_ok lines_now line_ok ranges_ok due_ok written_ok blank_sheet no_cells reset_state reset_stores fresh counters_ok stored cells_in marks_ok
clauses-table = (refl, refl)

-- All codes in cells and all table bytes are allowed: of a page the marks alone count. (So is all legend text: `stored_ok` holds whatever the text is
-- translated to.)
pub any-page : (k : Core) (p : List ℕ) → length p ≡ length k.stores.page → marks_ok p ≡ marks_ok k.stores.page → core_ok (with_page k p) ≡ core_ok k
unfolding core_ok sizes_ok
any-page k p e m = rw (e, m)

pub any-tables : (k : Core) (t : List ℕ) → length t ≡ length k.stores.tables → core_ok (with_tables k t) ≡ core_ok k
unfolding core_ok sizes_ok
any-tables k t e = rw e

-- Start: 9 by sizes alone, then 10, on the numbers as they were passed.
abbrev ones : ℕ → ℕ → ℕ → Stores
ones a b c = record { page = replicate a 1; legends = replicate b 1; tables = replicate c 1 }

abbrev right : Stores
right = ones page_size legend_size table_size

abbrev starts : ℕ → List ℕ → ℕ → Stores → ℕ
starts len ps skip m = number_of (start_refusal (asked len ps skip) m)

pub start-table :
    (starts 84 mixed 0 right ∷ starts 84 mixed 1 right ∷ starts 288 (15 ∷ 0 ∷ 0 ∷ 0 ∷ []) 0 right
    -- a form length, a pitch, a way of skipping
    ∷ starts 85 mixed 0 right ∷ starts 65620 mixed 0 right
    ∷ starts 84 (0 ∷ 10 ∷ 12 ∷ 15 ∷ []) 0 right ∷ starts 84 (10 ∷ 11 ∷ 12 ∷ 15 ∷ []) 0 right ∷ starts 84 (10 ∷ 0 ∷ 12 ∷ 271 ∷ []) 0 right
    ∷ starts 84 mixed 2 right ∷ starts 84 mixed 256 right
    -- sizes come first
    ∷ starts 85 mixed 0 (ones (page_size - 1) legend_size table_size) ∷ starts 84 mixed 2 (ones page_size (legend_size + 1) table_size) ∷ starts 84 mixed 0 (ones page_size legend_size 0)
    ∷ [])
    ≡ 0 ∷ 0 ∷ 0 ∷ 10 ∷ 10 ∷ 10 ∷ 10 ∷ 10 ∷ 10 ∷ 10 ∷ 9 ∷ 9 ∷ 9 ∷ []
unfolding start_refusal when first_or every sizes_ok form_lengths pitches_listed pitches_ok form_ok skip_ok row_of
start-table = refl

-- The command bytes: 46, and no others.
unfoldable pub keep_if : (ℕ → Bool) → List ℕ → List ℕ
keep_if f [] = []
keep_if f (x ∷ xs) = let rest = keep_if f xs in cond (f x) (x ∷ rest) rest

pub commands-table : keep_if (λ b. not (is_unlisted (decode b))) (from 0 256)
    ≡ 0x01 ∷ 0x03 ∷ 0x04 ∷ 0x09 ∷ 0x0B ∷ 0x11 ∷ 0x13 ∷ 0x19 ∷ 0x1B ∷ 0x23 ∷ 0x35 ∷ 0x37 ∷ 0x43 ∷ 0x47 ∷ 0x57 ∷ 0x63
    ∷ 0x67 ∷ 0x73 ∷ 0x77 ∷ 0x7B ∷ 0x83 ∷ 0x87 ∷ 0x89 ∷ 0x8B ∷ 0x91 ∷ 0x93 ∷ 0x99 ∷ 0x9B ∷ 0xA1 ∷ 0xA3 ∷ 0xA9 ∷ 0xAB
    ∷ 0xB1 ∷ 0xB3 ∷ 0xB9 ∷ 0xBB ∷ 0xC1 ∷ 0xC3 ∷ 0xC9 ∷ 0xCB ∷ 0xD1 ∷ 0xD3 ∷ 0xD9 ∷ 0xDB ∷ 0xE1 ∷ 0xE3 ∷ []
unfolding keep_if decode codes look_up
commands-table = refl
