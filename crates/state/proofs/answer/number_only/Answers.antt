-- An answer that tells its number alone fits, and is packed.
use mathlib.Core.Path.{ap, ◌∙◌}
use lib.Dec.{lit≤}
use Rattle.numbers.specs.Numbers.{only}
use Rattle.state.specs.Packed.{packed}
use Rattle.state.proofs.Fields.{fields, only-fits}
use Rattle.state.proofs.answer.number_only.Goals as goal

pub pack-requires : goal.pack-requires
pack-requires c = let x = c.args.refusal in rw c.only.ensures (fields (only x 0) (only-fits x 0 (lit≤ tt))).above

pub returns : goal.returns
returns c = c.pack.ensures ∙ ap packed c.only.ensures
