-- Codes by themselves, mended.
use Rattle.std.proofs.Common.{cond, map, sym, ap, ◌∙◌}
use Rattle.line.specs.Line.{unprintable, stand_in}
use Rattle.line.proofs.SpacedLaws.{one-spaced}
use Rattle.line.proofs.translate.mend.Goals as goal

pub returns : goal.returns
returns c = let o = c.args.cells.now in
    let ps = c.args.pitches in
    let whole = rw c.unwrap.ensures at c.as_array.ensures.cases in
    let other = c.stand_in-other.ensures ∙ ap (stand_in ps) whole.same in
    record {
      cells = c.mend_each.ensures.cells o (sym (one-spaced o)) ∙ one-spaced _ ∙ (λ j. map (λ x. cond (unprintable ps x) (other j) x) o);
      found = c.mend_each.ensures.found o (sym (one-spaced o));
    }
