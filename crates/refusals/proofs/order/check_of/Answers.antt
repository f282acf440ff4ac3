-- A load's record is not too long.
use mathlib.Core.List.{[]}
use borrow.Author.Tests.{ltb-false}
use Rattle.numbers.specs.Sizes.{legend_size}
use Rattle.refusals.proofs.order.check_of.Goals as goal

pub load_check-requires : goal.load_check-requires
load_check-requires c = ltb-false legend_size _ (rw c.in-Loads.is at (c.requires 0 []))
