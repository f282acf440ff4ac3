-- Document 01, "Numbers", 9: whether what is lent is such as a printer can have.
use Rattle.std.specs.Prelude.{ℕ, Bool, ◌&&◌, List, [], ◌∷◌}
use Rattle.seq.specs.Words.{every}
use Rattle.form.specs.Form.{form_ok, forms_in_range}
use Rattle.line.specs.Line.{slots_in_range}
use Rattle.copies.specs.Copies.{copies_in_range}
use Rattle.counters.specs.Counters.{counters_ok}
use Rattle.calls.specs.declared.State.{State}
use Rattle.calls.specs.Core.{Stores, P}
use Rattle.calls.specs.Contents.{line_ok, ranges_ok, due_ok, written_ok, forms_ok, sequence_ok, core_ok}
use Rattle.state.specs.State.{readable, core_at}

-- Bytes that stand for a printer, with contents that one can have.
unfoldable pub sound_bytes : List ℕ → Stores → Bool
sound_bytes s m = readable s && core_ok (core_at s m)

-- The clauses that are about the state, and the same by what the code looks at together (proofs/Sound): the small fields, the overlay sequence,
-- the FCB with the current line.
unfoldable pub state_ok : State → Bool
state_ok s = every (ranges_ok s ∷ due_ok s.sheet ∷ written_ok s.sheet ∷ forms_ok s ∷ sequence_ok s ∷ counters_ok s.counters ∷ [])

unfoldable pub fields_ok : State → Bool
fields_ok s = form_ok s.fixed.length s.fixed.pitches && (slots_in_range s.slots && (due_ok s.sheet && (written_ok s.sheet && counters_ok s.counters)))

unfoldable pub copies_ok : State → Bool
copies_ok s = copies_in_range s.copies && sequence_ok s

unfoldable pub forms_line_ok : State → Bool
forms_line_ok s = forms_in_range s.forms && (line_ok (P s) s.sheet && forms_ok s)
