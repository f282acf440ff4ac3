-- The part lent is the line, and the record is written on it.
use mathlib.Core.Bool.{false, not}
use native.Mathlib.Nat.{add-sub_cancel_left}
use Rattle.line.specs.Line.{line_at, put_line, page_written, text_causes, line_causes}
use Rattle.line.proofs.write_line.Goals as goal

pub returns : goal.returns
unfolding page_written put_line line_at line_causes text_causes
returns c = let put_cells = simp (add-sub_cancel_left, c.from.ensures, c.serving-table.ensures) at c.put_line-found.ensures.cells in
    let put_found = simp (add-sub_cancel_left, c.from.ensures, c.serving-table.ensures) at c.put_line-found.ensures.found in
    record {
      page = simp (add-sub_cancel_left, c.from.ensures, put_cells);
      causes = λ j. record {
        unprintables = (put_found j).unprintables;
        unloaded = not (c.is_loaded-unloaded.ensures j);
        unmatched = false;
        collision = (put_found j).collision;
      };
    }
