-- What each accepted command does: document 01, "Movement", "Writing a line", "Copies and legends", "Reset and sense" put together.
use Rattle.std.specs.Prelude.{ℕ, ◌+◌, Bool, true, false, cond, not, ◌&&◌, ◌||◌, List, [], length, get_or, take, set, eqb}
use Rattle.numbers.specs.Numbers.{Checked}
use Rattle.seq.specs.Words.{bit}
use Rattle.numbers.specs.Sizes.{slot_size}
use Rattle.numbers.specs.declared.Sense.{Sense}
use Rattle.numbers.specs.declared.Answer.{Answer}
use Rattle.numbers.specs.declared.SenseStep.{SenseStep}
use Rattle.numbers.specs.declared.SenseStep.TheVariants.{Keep, Anew}
use Rattle.numbers.specs.declared.Refusal.{Refusal}
use Rattle.numbers.specs.declared.Refusal.TheVariants.{Accepted, NotListed}
use Rattle.numbers.specs.Numbers.{sense3, no_sense, row_of, only}
use Rattle.movement.specs.declared.Motion.{Motion}
use Rattle.movement.specs.declared.Moved.{Moved}
use Rattle.form.specs.Form.{fcb_check, forms_of}
use Rattle.movement.specs.Movement.{moved, is_there, still, to_top}
use Rattle.line.specs.declared.Slots.{Slots}
use Rattle.line.specs.declared.Causes.{Causes}
use Rattle.line.specs.Line.{put_slot, serving, translated, unprintable_at, line_codes, line_at, page_written, no_causes, text_causes, line_causes, or_unmatched, cause_byte}
use Rattle.copies.specs.Copies.{table_check, sequence_check, number_check, with_sequence, with_reference}
use Rattle.legends.specs.Legends.{legend_check, stored_legends, unprintable_in_texts}
use Rattle.calls.specs.declared.Sheet.{Sheet}
use Rattle.calls.specs.declared.Load.{Load}
use Rattle.calls.specs.declared.Load.TheVariants.{Fcb, TranslateTable, CopyModification, OverlaySequence, CopyNumber}
use Rattle.calls.specs.declared.Control.{Control}
use Rattle.calls.specs.declared.Control.TheVariants.{NoOp, SenseIo, Initialize, Clear, Block, Allow, Select}
use Rattle.calls.specs.declared.Command.{Command}
use Rattle.calls.specs.declared.Command.TheVariants.{Write, Move, Controls, Loads, Unlisted}
use Rattle.calls.specs.declared.State.{State}
use Rattle.calls.specs.Core.{Core, with_state, with_page, with_legends, with_tables, with_blocked, with_forms, with_slots, with_copies, with_sheet, lines_now, started}
use Rattle.calls.specs.Commands.{Issued}
use Rattle.calls.specs.Reset.{reset, sense_bytes}

-- Calls: what a call answers and does: to the core, to the sense, and to the front of its lent buffer (Sense's reply, Compose's output).
pub record Effect : Type 0 where
  pub answer : Answer
  pub core : Core
  pub sense : SenseStep
  pub front : Sense → List ℕ

abbrev pub nothing : Sense → List ℕ
nothing s = []

-- Numbers: a refused call shows its number, status and sense, and does nothing else. n is the record's byte count.
unfoldable pub refused : Core → ℕ → Refusal → Effect
refused k n x = record { answer = only x (row_of n x).status; core = k; sense = (row_of n x).sense; front = nothing }

-- Numbers, Movement, Writing a line: an accepted command that sets the sense anew, by the core it leaves, its causes and its movement. Unit
-- check, 02, is for a cause that Block has not hidden and for channel 9; unit exception, 01, for channel 12. Sense byte 0 has 08 for such
-- a cause, and 01 for channel 9. What is told of unprintable positions (T-01) is told whether Block hides the cause or not.
unfoldable pub done : Core → Causes → Moved → Effect
done k c m =
    let b1 = cause_byte k.state.blocked c in
    let check = not (eqb b1 0) in
    record {
      answer =
          record {
            refusal = Accepted;
            status = (row_of 0 Accepted).status + bit (check || m.nine) 0x02 + bit m.twelve 0x01;
            ready = not (eqb m.pages 0);
            lines = m.lines;
            copy = 0;
            mark = 0;
            first = c.unprintables.first;
            count = c.unprintables.count;
          };
      core = k;
      sense = Anew (sense3 (bit check 0x08 + bit m.nine 0x01) b1 0);
      front = nothing;
    }

-- Movement: the sheet after it. A completed page waits; `written` is of the current line, so it goes when another line is entered.
unfoldable pub moved_sheet : Bool → Sheet → Moved → Sheet
moved_sheet due s m =
    cond (eqb m.pages 0)
    (record { line = m.line; written = s.written && eqb m.lines 0; waiting = s.waiting; due = s.due })
    (record { line = m.line; written = false; waiting = true; due = due })

abbrev pub moved_core : Bool → Core → Moved → Core
moved_core due k m = with_state k (with_sheet k.state (moved_sheet due k.state.sheet m))

unfoldable pub move_of : State → Motion → Moved
move_of s m = moved (lines_now s) s.sheet.line m

-- T-05: in the new way an immediate skip stands, where the current line has its channel and has nothing written on it.
unfoldable pub stands : State → Motion → Bool
stands s m = (not s.fixed.old && not s.sheet.written) && is_there (lines_now s) s.sheet.line m

-- Movement: the immediate commands.
unfoldable pub at_once : State → Motion → Moved
at_once s m = cond (stands s m) (still s.sheet.line) (move_of s m)

unfoldable pub do_move : Core → Motion → Effect
do_move k m = let mv = at_once k.state m in done (moved_core false k mv) (or_unmatched no_causes mv.missed) mv

-- Writing a line, before movement: the record's codes go on the current line, and the line is written, whatever they are.
unfoldable pub written_sheet : Sheet → Sheet
written_sheet s = record { line = s.line; written = true; waiting = s.waiting; due = s.due }

unfoldable pub written : Core → List ℕ → Core
written k r =
    let s = k.state.sheet in
    let codes = line_codes k.state.fixed.pitches (serving k.state.slots k.stores.tables) r in
    with_page (with_state k (with_sheet k.state (written_sheet s))) (page_written s.written s.line codes k.stores.page)

unfoldable pub write_causes : Core → List ℕ → Causes
write_causes k r =
    let s = k.state.sheet in
    line_causes k.state.fixed.pitches k.state.slots k.stores.tables s.written (line_at s.line k.stores.page) r

unfoldable pub do_write : Core → Motion → List ℕ → Effect
do_write k m r =
    let mv = move_of k.state m in
    done (moved_core false (written k r) mv) (or_unmatched (write_causes k r) mv.missed) mv

-- Form and forms control, Copies and legends: the five loads: what each one's check finds, what it leaves, and its causes.
unfoldable pub load_check : State → Load → List ℕ → Checked
load_check s Fcb r = fcb_check s.fixed.length r
load_check s TranslateTable r = table_check r
load_check s CopyModification r = legend_check r
load_check s OverlaySequence r = sequence_check r
load_check s CopyNumber r = number_check r

-- Form and forms control: an FCB load puts the form at line 1.
unfoldable pub at_line1 : Sheet → Sheet
at_line1 s = record { line = 1; written = s.written; waiting = s.waiting; due = s.due }

-- Writing a line: the selected slot, loaded; another slot, selected.
unfoldable pub slot_loaded : Slots → Slots
slot_loaded s = record { loaded = set s.loaded s.selected true; selected = s.selected }

unfoldable pub slot_selected : Slots → ℕ → Slots
slot_selected s n = record { loaded = s.loaded; selected = n }

-- Copies and legends: a translate load fills the selected slot with its first 256 bytes.
unfoldable pub loaded : Core → Load → List ℕ → Core
loaded k Fcb r = with_state k (with_sheet (with_forms k.state (forms_of r)) (at_line1 k.state.sheet))
loaded k TranslateTable r =
    with_tables (with_state k (with_slots k.state (slot_loaded k.state.slots)))
    (put_slot k.state.slots.selected (take slot_size r) k.stores.tables)
loaded k CopyModification r =
    with_legends k (stored_legends (translated k.state.fixed.pitches (serving k.state.slots k.stores.tables)) r)
loaded k OverlaySequence r = with_state k (with_copies k.state (with_sequence k.state.copies r))
loaded k CopyNumber r = with_state k (with_copies k.state (with_reference k.state.copies (get_or r 0 0)))

-- Copies and legends: legend text is checked as a first write on a line is (house). The other loads raise nothing.
unfoldable pub load_causes : Core → Load → List ℕ → Causes
load_causes k Fcb r = no_causes
load_causes k TranslateTable r = no_causes
load_causes k CopyModification r =
    let s = k.state.slots in
    text_causes s (unprintable_in_texts (unprintable_at k.state.fixed.pitches (serving s k.stores.tables)) r) false
load_causes k OverlaySequence r = no_causes
load_causes k CopyNumber r = no_causes

-- Movement: none.
abbrev pub standing : Core → Moved
standing k = still k.state.sheet.line

unfoldable pub do_load : Core → Load → List ℕ → Effect
do_load k l r = done (loaded k l r) (load_causes k l r) (standing k)

-- Movement, Reset and sense: Clear and Initialize complete a started page, Initialize with a reset due at its Release. On a page not
-- started Clear does nothing, and Initialize resets at once.
unfoldable pub completing : Core → Bool → Core → Effect
completing k due unstarted =
    cond (started k.state.sheet) (done (moved_core due k to_top) no_causes to_top) (done unstarted no_causes (standing k))

-- Reset and sense: No-Op keeps the sense; Sense replies it, then clears it.
abbrev pub quietly : Core → SenseStep → (Sense → List ℕ) → Effect
quietly k s f = record { answer = only Accepted (row_of 0 Accepted).status; core = k; sense = s; front = f }

unfoldable pub do_control : Core → Control → Effect
do_control k NoOp = quietly k Keep nothing
do_control k SenseIo = quietly k (Anew no_sense) (sense_bytes k.state)
do_control k Initialize = completing k true (reset k)
do_control k Clear = completing k false k
do_control k Block = done (with_state k (with_blocked k.state true)) no_causes (standing k)
do_control k Allow = done (with_state k (with_blocked k.state false)) no_causes (standing k)
do_control k (Select n) = done (with_state k (with_slots k.state (slot_selected k.state.slots n))) no_causes (standing k)

-- Commands: each accepted one. A byte that is none is refused before it comes here, with this same effect.
unfoldable pub do_command : Core → Command → Issued → Effect
do_command k (Write m) i = do_write k m i.sent
do_command k (Move m) i = do_move k m
do_command k (Controls c) i = do_control k c
do_command k (Loads l) i = do_load k l i.sent
do_command k Unlisted i = refused k (length i.sent) NotListed
