-- Document 01, "Numbers": contents no printer has, clause by clause in the paper's order; T-02's clause, about the page counters, and
-- T-03's, about rule marks, come last. Every definition here is of that section. No clause looks at the sense, at a cell's code, at a table's byte or at
-- legend text: all of these are allowed.
use Rattle.std.specs.Prelude.{ℕ, Bool, not, ◌&&◌, ◌||◌, List, [], ◌∷◌, leb}
use Rattle.seq.specs.Words.{every}
use Rattle.numbers.specs.Numbers.{is_sound}
use Rattle.form.specs.Form.{form_ok, fcb_check, fcb_now, forms_in_range}
use Rattle.line.specs.Cells.{marks_ok}
use Rattle.line.specs.Line.{slots_in_range}
use Rattle.copies.specs.Copies.{sequence_check, sequence_now, copies_in_range}
use Rattle.legends.specs.Legends.{legends_ok}
use Rattle.counters.specs.Counters.{counters_ok}
use Rattle.calls.specs.declared.Sheet.{Sheet}
use Rattle.calls.specs.declared.State.{State}
use Rattle.calls.specs.Core.{Core, sizes_ok, P}

-- Ranges of the fields: form and pitches are such as Start takes, the current line is one of the P.
unfoldable pub line_ok : ℕ → Sheet → Bool
line_ok p s = every (leb 1 s.line ∷ leb s.line p ∷ [])

unfoldable pub ranges_ok : State → Bool
ranges_ok s =
    every
    (form_ok s.fixed.length s.fixed.pitches
    ∷ forms_in_range s.forms
    ∷ slots_in_range s.slots
    ∷ copies_in_range s.copies
    ∷ line_ok (P s) s.sheet
    ∷ [])

-- A reset is due only while a page waits.
unfoldable pub due_ok : Sheet → Bool
due_ok s = not s.due || s.waiting

-- No line is marked written while a page waits.
unfoldable pub written_ok : Sheet → Bool
written_ok s = not (s.written && s.waiting)

-- Forms control, and the overlay sequence, are such as their loads would take.
abbrev pub forms_ok : State → Bool
forms_ok s = is_sound (fcb_check s.fixed.length (fcb_now s.forms))

abbrev pub sequence_ok : State → Bool
sequence_ok s = is_sound (sequence_check (sequence_now s.copies))

-- All that number 9 asks: the sizes of the lent stores, then the clauses.
abbrev pub clauses : Core → List Bool
clauses k =
    sizes_ok k.stores
    ∷ ranges_ok k.state
    ∷ due_ok k.state.sheet
    ∷ written_ok k.state.sheet
    ∷ forms_ok k.state
    ∷ sequence_ok k.state
    ∷ legends_ok k.stores.legends
    ∷ counters_ok k.state.counters
    ∷ marks_ok k.stores.page
    ∷ []

unfoldable pub core_ok : Core → Bool
core_ok k = every (clauses k)
