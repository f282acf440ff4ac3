-- After so many turns of 12 bytes, their codes are the record's, and the next turn adds its own.
use Rattle.std.proofs.Common.{◌≡◌, ◌+◌, ◌*◌, ◌/◌, ◌≤◌, ℕ, ◌++◌, length, take, ltb, ap, subst, ◌∙◌, take_all, drop_of_length-le, rules, arith}
use mathlib.Core.List.{append-nil}
use Rattle.seq.specs.Words.{any}
use Rattle.line.specs.Codes.{codes, spaced}
use Rattle.line.proofs.SpacedLaws.{Laid, Seen, part-long, seen-turn, laid-turn}
use Rattle.line.proofs.translate.look_up.Goals as goal

pub loop-turn-preserved : goal.loop-turn-preserved
loop-turn-preserved g c = let l = c.loop-turn in
    let t = c.args.table.now in
    let r = c.args.sent.now in
    let n = 12 * l.turn in
    let e = 12 * (l.turn + 1) in
    let room : e ≤ length r = omega arith in
    record {
      seen = seen-turn t r n e (omega arith) room l.seen _ l.invariant.seen c.look_up_each-seen.ensures.seen;
      cells = laid-turn t r n e (omega arith) room g.row.STRIDE (search rules) c.args.cells.now l.cells _ l.invariant.cells
          c.look_up_each-seen.ensures.cells;
    }

pub look_up_each-seen-requires-2-clause-cells_len : goal.look_up_each-seen-requires-2-clause-cells_len
look_up_each-seen-requires-2-clause-cells_len g c =
    part-long g.row.STRIDE (search rules) _ _ c.loop-turn.cells c.args.sent.now (search rules) (omega arith)

pub returns : goal.returns
returns g c = let l = c.loop-turn in
    let t = c.args.table.now in
    let r = c.args.sent.now in
    let n = length r in
    let at = 12 * (n / 12) in
    let same : 12 * l.turn ≡ at = omega arith in
    let room : n ≤ n = omega arith in
    let S : ℕ → Type 0 = λ k. Seen t r k l.seen in
    let L : ℕ → Type 0 = λ k. Laid g.row.STRIDE t r k c.args.cells.now l.cells in
    let all : codes t (take n r) ≡ codes t r = ap (codes t) (take_all n r room) in
    let before = subst L same l.invariant.cells in
    let laid = laid-turn t r at n (omega arith) room g.row.STRIDE (search rules) c.args.cells.now l.cells _ before c.look_up_each-seen-2.ensures.cells in
    record {
      cells = λ cs h p. laid cs h p ∙ ap (spaced g.row.STRIDE) ((λ i. all i ++ drop_of_length-le cs {i = n} (omega (arith, h)) i) ∙ append-nil (codes t r));
      top = seen-turn t r at n (omega arith) room l.seen _ (subst S same l.invariant.seen) c.look_up_each-seen-2.ensures.seen ∙ ap (any (ltb 0xFE)) all;
    }
