-- The lines are copied, then painted.
use mathlib.Core.Path.{refl, sym, ap, ◌∙◌}
use Prim.Native.Nat.{◌*◌}
use native.Mathlib.Omega.{arith}
use Rattle.numbers.specs.Sizes.{line_width}
use Rattle.line.specs.Cells.{stored}
use Rattle.line.proofs.StoredLaws.{stored-cells}
use Rattle.legends.proofs.compose.compose_in.Goals as goal

pub returns : goal.returns
returns c =
    let cells = line_width * c.args.lines in
    let whole = stored-cells cells c.paint_all.new.out (omega (arith, c.requires.out_len, c.copy_from_slice.ensures.len, c.paint_all.auto.out)) in
    sym whole ∙ ap stored (c.paint_all.ensures ∙ rw c.copy_from_slice.ensures.after refl)
