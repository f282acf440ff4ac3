-- Slots, the sheet's flags and the counters, then form and pitches.
use mathlib.Core.Path.{◌≡◌}
use mathlib.Core.Bool.{true, false, ◌&&◌, and-true, and-false, and_assoc}
use lib.Dec.{leb}
use Rattle.seq.specs.Words.{every}
use Rattle.line.specs.Line.{slots_in_range}
use Rattle.calls.specs.Contents.{due_ok}
use Rattle.printer.specs.Layout.{loaded_at, selected_at}
use Rattle.state.specs.State.{byte_at, flag_at, state_at}
use Rattle.state.specs.Contents.{fields_ok}
use Rattle.state.proofs.judge.fields_ok.Goals as goal

pub returns-else-slots-sheet : goal.returns-else-slots-sheet
unfolding fields_ok slots_in_range every state_at
returns-else-slots-sheet c = let s = c.args.s.now in
    let h : ((flag_at s loaded_at && leb (byte_at s selected_at) 3) && (c.sheet_ok-sheet.result && c.counters_ok-counters.result)) ≡ false = c.if-slots-sheet.false in
    rw (and-true, ← and_assoc (due_ok (state_at s).sheet), ← c.sheet_ok-sheet.ensures, ← c.counters_ok-counters.ensures, h, and-false)

pub returns-then-slots-sheet : goal.returns-then-slots-sheet
unfolding fields_ok slots_in_range every state_at
returns-then-slots-sheet c = let s = c.args.s.now in
    let h : ((flag_at s loaded_at && leb (byte_at s selected_at) 3) && (c.sheet_ok-sheet.result && c.counters_ok-counters.result)) ≡ true = c.if-slots-sheet.true in
    rw (and-true, ← and_assoc (due_ok (state_at s).sheet), ← c.sheet_ok-sheet.ensures, ← c.counters_ok-counters.ensures, h, and-true) c.fixed_ok.ensures
