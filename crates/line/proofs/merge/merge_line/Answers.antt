-- The record's codes with the front of the line, and the stand-in with the rest, are the line's codes with the line.
use mathlib.Core.Path.{◌≡◌, ap, ◌∙◌}
use mathlib.Core.Bool.{◌||◌}
use mathlib.Core.List.{◌++◌}
use Prim.Native.Nat.{◌+◌, ◌*◌, ◌-◌}
use native.Mathlib.Nat.{sub-zero}
use lib.ListN.{length, replicate}
use borrow.Author.Rules.{rules}
use Rattle.numbers.specs.Sizes.{line_width}
use Rattle.line.specs.declared.Found.{Found}
use Rattle.line.specs.Line.{stand_in, translated, line_codes}
use Rattle.line.proofs.LineLaws.{length-translated}
use Rattle.line.proofs.MergeLaws.{merge-parts, clash-parts, parts-put, part_left}
use Rattle.line.proofs.merge.merge_line.Goals as goal

pub returns : goal.returns
unfolding line_codes
returns c = let a = c.args in
    let ps = a.pitches in
    let t = a.table.now in
    let r = a.sent.now in
    let e = a.cells.now in
    let n = length r in
    let front_cells = simp sub-zero at c.merge_record-found.ensures.cells in let front_found = simp sub-zero at c.merge_record-found.ensures.found in
    let x = c.merge_record-found.new.cells in
    let long : length x ≡ 2 * n = search rules in
    let whole : length e ≡ 2 * n + (408 - 2 * n) = search rules in
    let fill = replicate (line_width - n) (stand_in ps t) in
    let y = c.merge_fill-clash.new.cells in
    let left = part_left (2 * n) (408 - 2 * n) e x y long whole in
    let back_cells = simp (sub-zero, left, c.stand_in-other.ensures) at c.merge_fill-clash.ensures.cells in
    let back_clash = simp (sub-zero, left, c.stand_in-other.ensures) at c.merge_fill-clash.ensures.clash in
    let same = length-translated ps t r in
    let parts = parts-put (2 * n) (408 - 2 * n) e x y long whole in
    let told = ap (λ (u : Found). u.unprintables) front_found in
    let clash = (λ i. (front_found i).collision || back_clash i) ∙ clash-parts n e (translated ps t r) fill same in
    record {
      cells = simp sub-zero (parts ∙ (λ j. front_cells j ++ back_cells j) ∙ merge-parts n e (translated ps t r) fill same);
      found = λ j. record { unprintables = told j; collision = clash j };
    }
