use Rattle.std.proofs.Common.{sym, ap, ◌∙◌, ◌-◌, ◌<◌, length}
use Rattle.seq.specs.Scan.{past}
use Rattle.seq.specs.Words.{any}
use Rattle.seq.proofs.Laws.{take_rest}
use Rattle.seq.proofs.Loops.{behind-none, behind-more, behind-here, behind-last}
use Rattle.seq.proofs.any_above_by.Goals as goal

pub loop-part-init : goal.loop-part-init
loop-part-init c = record {
  size = rw c.into_iter-part-iterator.ensures.into_iter_gives c.chunks_exact-part-items.ensures.size;
  behind = rw (c.into_iter-part-iterator.ensures.into_iter_gives, c.chunks_exact-part-items.ensures.rest) (behind-none (past c.args.base c.args.limit) _);
}

pub returns-then-any_above : goal.returns-then-any_above
returns-then-any_above c =
    sym (behind-here (past c.args.base c.args.limit) (length c.args.s.now - 1) c.args.s.now c.in-Some.part.now _ c.loop-part.invariant.behind
    c.in-Some.ensures.steps.1.0 (sym c.any_above-in-loop-part.ensures ∙ c.if-any_above.true))

pub loop-part-preserved : goal.loop-part-preserved
loop-part-preserved c = record {
  size = c.in-Some.ensures.steps.0 ∙ c.loop-part.invariant.size;
  behind = behind-more (past c.args.base c.args.limit) c.in-Some.part.now c.loop-part.invariant.behind c.in-Some.ensures.steps.1.0
      (sym c.any_above-in-loop-part.ensures ∙ c.if-any_above.false);
}

pub returns : goal.returns
returns c =
    let h : length c.loop-part.part-iterator.rest.now < c.args.block = rw (← c.loop-part.invariant.size) c.in-None.ensures.steps.1.0 in
    let s = c.args.s.now in
    let f = past c.args.base c.args.limit in
    c.any_above-2.ensures ∙ ap (any f) (take_rest (length s - c.args.block) s) ∙ sym (behind-last f c.args.block s c.loop-part.invariant.behind h c.if-n-block.false)
