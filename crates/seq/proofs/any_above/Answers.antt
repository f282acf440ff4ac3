use Rattle.seq.specs.Scan.{past}
use Rattle.seq.proofs.Loops.{any-more}
use Rattle.seq.proofs.any_above.Goals as goal

pub loop-b-preserved : goal.loop-b-preserved
unfolding past
loop-b-preserved c = rw c.loop-b.invariant (any-more (past c.args.base c.args.limit) 0 c.loop-b.b-index c.args.s.now c.loop-b-test.true)
