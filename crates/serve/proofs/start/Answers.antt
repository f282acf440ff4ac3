-- Begun, or refused with 9 for want of room.
use borrow.Author.Tests.{ne_eqb}
use Rattle.serve.proofs.Steps.{start-with-room, start-room, start-without-room}
use Rattle.serve.proofs.start.Goals as goal

pub pack-requires : goal.pack-requires
pack-requires c = start-room _ _ c.begin.result c.begin.ensures

pub returns : goal.returns
returns c = start-with-room _ _ _ c.begin.result c.in-Some.ensures.cases.long c.begin.ensures c.pack.ensures

pub returns-in_default : goal.returns-in_default
returns-in_default c = start-without-room _ _ _ (ne_eqb _ _ c.in_default.ensures.cases) c.unread.ensures
