-- What is told of one list, and of one position after it.
use mathlib.Core.Path.{refl, sym}
use mathlib.Core.List.{[], ◌∷◌}
use Prim.Native.Nat.{◌+◌}
use Rattle.line.proofs.UnprintableLaws.{told-one}
use Rattle.line.proofs.Unprintables.with.Goals as goal

pub returns : goal.returns
returns c = record {
  told = λ ns e. rw c.first_of.ensures rw e (sym (told-one ns (1 + c.args.i)));
  count = refl;
}
