-- The record's codes stand over the front of a line of stand-ins; they are mended, or none of them is unprintable.
use Prim.Native.Nat.{ℕ, zero, suc, ◌-◌, ◌*◌, ◌≤◌}
use mathlib.Core.Path.{◌≡◌, sym, ap, ◌∙◌}
use mathlib.Core.Bool.{cond, not, not-not}
use mathlib.Core.List.{List, [], ◌∷◌, ◌++◌, map}
use native.Mathlib.Nat.{sub-zero}
use native.Mathlib.Omega.{arith}
use lib.ListN.{length, get_or, take, drop, replicate, length-map, length-replicate}
use lib.Seq.{take_at, drop_at, length-take-le}
use borrow.Author.Rules.{rules}
use Rattle.seq.proofs.Laws.{or_left, or_right, drop-replicate}
use Rattle.numbers.specs.Sizes.{line_width}
use Rattle.line.specs.Line.{unprintable, stand_in, translated, told, line_codes}
use Rattle.line.specs.Codes.{codes, spaced}
use Rattle.line.specs.Straight.{plain}
use Rattle.line.proofs.CellLaws.{fitted-any, unprintable-codes, replaced-codes, printable-none, printable-codes}
use Rattle.line.proofs.SpacedLaws.{two-spaced, spaced-lent, spaced-put}
use Rattle.line.proofs.first.set_line.Goals as goal

-- codes from a table of bytes are bytes
codes-bytes : (t r : List ℕ) → ((k : ℕ) → get_or t k 0 ≤ 255) → (k : ℕ) → get_or (codes t r) k 0 ≤ 255
codes-bytes t [] h k = omega arith
codes-bytes t (b ∷ r) h zero = h b
codes-bytes t (b ∷ r) h (suc k) = codes-bytes t r h k

some : 1 ≤ 2
some = omega arith

-- behind the record's codes, stand-ins
abbrev fill : List ℕ → List ℕ → List ℕ → List ℕ
fill ps t r = replicate (line_width - length r) (stand_in ps t)

-- after the look_up: the record's codes over the front of a line of stand-ins
looked-up : (ps t r : List ℕ) (other : ℕ) (out new : List ℕ)
    → length r ≤ line_width → other ≡ stand_in ps t → out ≡ plain (replicate line_width other)
    → ((cs : List ℕ) → length cs ≡ length r → take (2 * length r - 0) out ≡ spaced 2 cs → new ≡ spaced 2 (codes t r))
    → new ++ drop (2 * length r - 0) out ≡ spaced 2 (codes t r ++ fill ps t r)
looked-up ps t r other out new fits stands filled cells =
    let whole = filled ∙ sym (two-spaced (replicate line_width other)) in
    let n = length r in
    let line = replicate line_width other in
    let there : length line ≡ line_width = length-replicate line_width other in
    let short = length-take-le (n - 0) line (omega arith) ∙ sub-zero n in
    let back = cells (take (n - 0) line) short (spaced-lent 2 some 0 n line out whole) in
    let left : line_width - (n - 0) ≡ line_width - n = omega arith in
    let behind = drop-replicate (n - 0) line_width other ∙ (λ j. replicate (left j) (stands j)) in
    spaced-put 2 some 0 n line out whole (codes t r) new back ∙ ap (λ (l : List ℕ). spaced 2 (codes t r ++ l)) behind

pub returns-then-top-fitted : goal.returns-then-top-fitted
unfolding line_codes
returns-then-top-fitted c = let a = c.args in
    let ps = a.pitches in
    let t = a.table.now in
    let r = a.sent.now in
    let n = length r in
    let cs = codes t r in
    let long : length cs ≡ n - 0 = length-map r _ ∙ sym (sub-zero n) in
    let line = cs ++ fill ps t r in
    let filled = looked-up ps t r _ _ _ (omega arith) c.stand_in-other.ensures c.fill.ensures c.look_up-top.ensures.cells in
    let lent = spaced-lent 2 some 0 n line _ filled ∙ ap (spaced 2) (take_at cs (fill ps t r) (n - 0) long) in
    let mended = c.mend_each.ensures.cells cs lent
    ∙ (λ j. spaced 2 (map (λ x. cond (unprintable ps x) (c.stand_in-other.ensures j) x) cs)) ∙ ap (spaced 2) (replaced-codes ps t r) in
    record {
      cells = spaced-put 2 some 0 n line _ filled (translated ps t r) _ mended
          ∙ ap (λ (l : List ℕ). spaced 2 (translated ps t r ++ l)) (drop_at cs (fill ps t r) (n - 0) long) ∙ two-spaced _;
      found = c.mend_each.ensures.found cs lent ∙ ap told (unprintable-codes ps t r);
    }

pub returns-else-top-fitted : goal.returns-else-top-fitted
unfolding line_codes
returns-else-top-fitted c = let a = c.args in
    let ps = a.pitches in
    let t = a.table.now in
    let r = a.sent.now in
    let top = c.look_up-top.result in
    let fits = c.fitted.result in
    let low = or_left top (not fits) c.if-top-fitted.false in
    let fitted = sym c.fitted.ensures ∙ sym (not-not fits) ∙ ap not (or_right top (not fits) c.if-top-fitted.false) in
    let bytes = codes-bytes t r (search rules) in
    let none = fitted-any ps (codes t r) (search rules) bytes fitted ∙ sym c.look_up-top.ensures.top ∙ low in
    record {
      cells = looked-up ps t r _ _ _ (omega arith) c.stand_in-other.ensures c.fill.ensures c.look_up-top.ensures.cells
          ∙ ap (λ (l : List ℕ). spaced 2 (l ++ fill ps t r)) (printable-codes ps t r none) ∙ two-spaced _;
      found = ap told (sym (printable-none ps t r none));
    }
