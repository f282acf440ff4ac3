-- The page counted and emptied, and the reset done or not, as the definition has it.
use Prim.Native.Nat.{ℕ}
use mathlib.Core.Path.{◌≡◌, ◌∙◌}
use mathlib.Core.List.{List}
use Rattle.numbers.specs.declared.Sense.{Sense}
use Rattle.calls.specs.Core.{Stores, Core}
use Rattle.calls.specs.Reset.{no_cells}
use Rattle.calls.specs.Calls.{page_counted, emptied, released, do_release}
use Rattle.printer.specs.declared.Step.{Step}
use Rattle.printer.specs.Worlds.{core_of, outcome}
use Rattle.printer.proofs.Printer.release.Goals as goal
use Rattle.printer.proofs.Printer.release.Goals.{then-sheet, else-sheet}

-- what is handed back as an outcome: by its core and its sense
outcome-is : (r : Step) (b : List ℕ) (m : Stores) {k : Core} {s : Sense} → core_of r.printer m ≡ k → r.printer.sense ≡ s
    → outcome r b m ≡ record { answer = r.answer; buffer = b; world = record { core = k; sense = s } }
outcome-is r b m e h = rw (← e, ← h)

pub returns : goal.returns
unfolding do_release released page_counted emptied no_cells
returns c = λ b. rw (c.accepted.ensures, c.fill.ensures.after (λ y h. h), c.requires.page) (outcome-is _ b _
    (elim c.if-sheet.branch [
      | then-sheet w ↦ rw (w.self-is, w.legends-is, w.tables-is)
          (w.reset-self.ensures.core _ ∙ rw (w.if-sheet.true, ← c.blank_sheet-self.ensures, ← c.counted-self.ensures))
      | else-sheet w ↦ rw (w.self-is, w.legends-is, w.tables-is, w.if-sheet.false, ← c.blank_sheet-self.ensures, ← c.counted-self.ensures)
    ])
    (elim c.if-sheet.branch [ then-sheet w ↦ rw w.self-is w.reset-self.ensures.sense | else-sheet w ↦ rw w.self-is ]))
