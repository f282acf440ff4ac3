-- What the pass has found, joined with what is left, is the layout of all.
use Rattle.std.proofs.Common.{◌≡◌, ◌*◌, ◌≤◌, drop}
use Rattle.form.specs.Form.{most_units, layout_of}
use Rattle.form.proofs.LayoutLaws.{joined}
use Rattle.form.proofs.fcb.lay_out.Given as goal

abbrev pub invariant-loop-b : goal.invariant-loop-b
invariant-loop-b l =
    record {
      joined_is : joined l.form l.s (drop l.b-index l.fcb) ≡ layout_of l.form l.fcb;
      units_most : l.s.units ≤ most_units * l.b-index;
      top_most : l.s.top ≤ l.b-index;
      lines_most : l.s.lines ≤ l.b-index;
    }
