-- FF, and what the scans for absent modules find, are all that is unprintable.
use Rattle.std.proofs.Common.{◌≡◌, ◌≤◌, ◌||◌, ℕ, List, get_or, ltb, sym, ap, ◌∙◌, rules}
use Rattle.seq.specs.Words.{any}
use Rattle.seq.proofs.Laws.{four}
use Rattle.seq.proofs.Loops.{any-past-zero}
use Rattle.line.specs.Line.{unprintable}
use Rattle.line.specs.Codes.{codes}
use Rattle.line.proofs.CellLaws.{any-scanned}
use Rattle.line.proofs.SpacedLaws.{one-spaced}
use Rattle.line.proofs.translate.codes.Goals as goal

pub returns : goal.returns
returns c = let o = c.args.cells.now in
    let r = c.args.sent.now in
    let ps = c.args.pitches in
    let new = c.look_up.new.cells in
    let whole = rw c.unwrap.ensures at c.as_array.ensures.cases in
    let found : new ≡ codes c.unwrap.result.now r = c.look_up.ensures.cells o (search rules) (sym (one-spaced o)) ∙ one-spaced _ in
    let bytes : (k : ℕ) → get_or new k 0 ≤ 255 = search rules in
    let top = c.look_up.ensures.top ∙ ap (any (ltb 0xFE)) (sym found) ∙ sym (any-past-zero new bytes 0xFE) in
    record {
      cells = found ∙ ap (λ (t : List ℕ). codes t r) whole.same;
      bad = (λ i. top i || c.any_absent.ensures i || c.any_absent-2.ensures i || c.any_absent-3.ensures i || c.any_absent-4.ensures i)
          ∙ any-scanned (get_or ps 0 0) (get_or ps 1 0) (get_or ps 2 0) (get_or ps 3 0) new bytes
          ∙ ap (λ (qs : List ℕ). any (unprintable qs) new) (four ps (search rules));
    }
