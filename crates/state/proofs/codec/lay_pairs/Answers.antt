-- The array over its place.
use lib.Seq.{drop-drop}
use Rattle.copies.specs.Copies.{pair_size}
use Rattle.printer.specs.Layout.{pairs_at}
use Rattle.state.proofs.codec.lay_pairs.Goals as goal

pub returns : goal.returns
returns c = rw (c.copy_from_slice.ensures.after, drop-drop pair_size pairs_at c.args.s.now)
