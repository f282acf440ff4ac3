-- The first chunks of two are the pairs.
use Rattle.copies.proofs.CopiesLaws.{chunked}
use Rattle.copies.proofs.pairs_in.Goals as goal

pub returns-clause-pairs : goal.returns-clause-pairs
returns-clause-pairs c = rw c.as_chunks.ensures.front (chunked c.args.bytes.now)
