-- The copy as the definition has it; the form's lines are P, and a composed copy is as long as they are.
use mathlib.Core.Path.{◌≡◌, ◌∙◌}
use mathlib.Core.List.{List, map}
use Prim.Native.Nat.{ℕ, ◌*◌, ◌≤◌}
use native.Mathlib.Omega.{arith}
use lib.ListN.{length, take}
use lib.Seq.{length-take-le}
use Rattle.numbers.specs.Sizes.{line_bytes}
use Rattle.copies.specs.Copies.{copy_number}
use Rattle.line.specs.Cells.{cells_in}
use Rattle.line.proofs.StoredLaws.{length-stored, length-cells}
use Rattle.legends.specs.Legends.{segment_of, stored_segments, copy_from, composed}
use Rattle.legends.proofs.ComposeLaws.{length-copy_from}
use Rattle.calls.specs.Core.{P}
use Rattle.calls.specs.Calls.{copy_at, do_compose}
use Rattle.calls.proofs.Good.{form-lines}
use Rattle.printer.proofs.Printer.compose.Goals as goal

length-composed : (page legends : List ℕ) (p number : ℕ) → line_bytes * p ≤ length page → length (composed page legends p number) ≡ line_bytes * p
unfolding composed
length-composed page legends p number h =
    let cells = cells_in (take (line_bytes * p) page) in
    length-stored (copy_from _ number 0 cells)
    ∙ omega (
      arith,
      length-copy_from (map segment_of (stored_segments legends)) number 0 cells,
      length-cells (take (line_bytes * p) page),
      length-take-le (line_bytes * p) page h,
    )

pub returns : goal.returns
unfolding do_compose copy_at copy_number
returns c = λ t. let k = c.args.self.state in let l = form-lines k c.args.form c.requires.fit.layout in
    let fits : line_bytes * P k ≤ length c.args.page.now = omega (arith, l, c.requires.fit.few, c.requires.page) in rw (
      c.only.ensures,
      c.compose.ensures,
      c.copy_number-number.ensures,
      c.mark_of-mark.ensures,
      l,
      length-composed c.args.page.now c.args.legends.now (P k) _ fits,
    )
