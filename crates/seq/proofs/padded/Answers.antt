-- The zeros that the bytes leave are those after them.
use Prim.Native.Nat.{ℕ}
use Rattle.std.proofs.lemmas.List.{drop-replicate}
use Rattle.seq.specs.Words.{padded}
use Rattle.seq.proofs.padded.Goals as goal

pub returns : goal.returns
unfolding padded
returns g c = rw (c.copy_from_slice.ensures.after, drop-replicate {X = ℕ})
