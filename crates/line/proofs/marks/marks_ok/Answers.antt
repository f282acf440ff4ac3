-- After so many turns no cell of the last blocks has a bad mark. The block at the front has all before them.
use mathlib.Core.Path.{◌≡◌, sym, ap, ◌∙◌}
use mathlib.Core.Bool.{Bool, not, ◌||◌, or-false}
use mathlib.Core.List.{List}
use Prim.Native.Nat.{ℕ, ◌+◌, ◌*◌, ◌/◌, ◌-◌}
use native.Mathlib.Omega.{arith}
use lib.ListN.{length, take, drop, drop_of_length-le}
use lib.Seq.{drop-drop}
use Rattle.seq.specs.Words.{any}
use Rattle.seq.proofs.Loops.{any-split, any-drop, any_here, any-back}
use Rattle.line.specs.Cells.{cells_in}
use Rattle.line.specs.Scan.{bad_mark}
use Rattle.line.proofs.StoredLaws.{length-cells, cells-take}
use Rattle.line.proofs.MarkLaws.{marks-by-cells, cells-part}
use Rattle.line.proofs.marks.marks_ok.Goals as goal

-- a block is that of the cells from `first` on
judged : (first : ℕ) (page block : List ℕ) {bad : Bool} → bad ≡ any bad_mark (cells_in block)
    → block ≡ take (2 * first + 1024 - 2 * first) (drop (2 * first) page)
    → bad ≡ any bad_mark (take 512 (drop first (cells_in page)))
judged first page block b e =
    let size : 2 * first + 1024 - 2 * first ≡ 2 * 512 = omega arith in
    b ∙ ap (λ (s : List ℕ). any bad_mark (cells_in s)) e ∙ (λ i. any bad_mark (cells_in (take (size i) (drop (2 * first) page))))
    ∙ ap (any bad_mark) (cells-part first 512 page)

pub loop-turn-init : goal.loop-turn-init
loop-turn-init c = let page = c.args.page.now in
    ap (any bad_mark) (drop_of_length-le (cells_in page) {i = length page / 2 - 512 * 0} (omega (arith, length-cells page)))

pub returns-then-any_bad : goal.returns-then-any_bad
returns-then-any_bad c = let page = c.args.page.now in
    let first = length page / 2 - 512 * (c.loop-turn.turn + 1) in
    let whole = rw c.unwrap.ensures at c.as_array.ensures.cases in
    let bad = judged first page _ c.any_bad.ensures whole.same in
    sym (marks-by-cells page ∙ ap not (any_here bad_mark first 512 (cells_in page) (sym bad ∙ c.if-any_bad.true)))

pub loop-turn-preserved : goal.loop-turn-preserved
loop-turn-preserved c = let page = c.args.page.now in
    let xs = cells_in page in
    let first = length page / 2 - 512 * (c.loop-turn.turn + 1) in
    let back : first + 512 ≡ length page / 2 - 512 * c.loop-turn.turn = omega arith in
    let whole = rw c.unwrap.ensures at c.as_array.ensures.cases in
    let bad = judged first page _ c.any_bad.ensures whole.same in
    any-back bad_mark first 512 xs (sym bad ∙ c.if-any_bad.false) (ap (λ (n : ℕ). any bad_mark (drop n xs)) back ∙ c.loop-turn.invariant)

pub returns : goal.returns
returns c = let page = c.args.page.now in
    let xs = cells_in page in
    let left = length page / 2 - 512 * c.loop-turn.turn in
    let more : left + (512 - left) ≡ 512 = omega arith in
    let behind = ap (any bad_mark) (sym (ap (λ (n : ℕ). drop n xs) more) ∙ sym (drop-drop (512 - left) left xs))
    ∙ any-drop bad_mark (512 - left) (drop left xs) c.loop-turn.invariant in
    let whole = rw c.unwrap-2.ensures at c.first_chunk.ensures.cases in
    let front = c.any_bad-2.ensures ∙ ap (λ (s : List ℕ). any bad_mark (cells_in s)) whole.same ∙ ap (any bad_mark) (cells-take 512 page) in
    ap not (front ∙ sym (or-false _) ∙ sym (ap (λ (b : Bool). any bad_mark (take 512 xs) || b) behind) ∙ sym (any-split bad_mark 512 xs))
    ∙ sym (marks-by-cells page)
