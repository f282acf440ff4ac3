-- After k turns the words of 2 k cells are put together, and tell whether one of their marks is bad.
use mathlib.Core.Path.{refl, ap, ◌∙◌}
use Prim.Native.Nat.{ℕ, ◌≤◌, ◌*◌}
use native.Mathlib.Omega.{arith}
use lib.Bits.{bit_or}
use lib.ListN.{length}
use borrow.Author.Rules.{rules}
use Rattle.seq.proofs.Loops.{any-all}
use Rattle.line.specs.Cells.{cells_in}
use Rattle.line.specs.Scan.{bad_mark, bad_word}
use Rattle.line.proofs.StoredLaws.{length-cells}
use Rattle.line.proofs.MarkLaws.{word_more}
use Rattle.line.proofs.marks.any_bad.Goals as goal

pub loop-k-init : goal.loop-k-init
unfolding bad_word
loop-k-init c = refl

pub loop-k-preserved : goal.loop-k-preserved
loop-k-preserved c = let l = c.loop-k in
    let s = c.args.block.now in
    let more = word_more s l.k l.seen (search rules) (search rules) l.invariant in
    ap (λ (w : ℕ). bad_word (bit_or l.seen w)) c.word-seen.ensures ∙ more

pub returns : goal.returns
returns c = let l = c.loop-k in
    let s = c.args.block.now in
    let all : length (cells_in s) ≤ 2 * l.k = omega (arith, length-cells s) in
    c.is_bad.ensures ∙ l.invariant ∙ any-all bad_mark (2 * l.k) (cells_in s) all
