-- Six bytes written out, so that `any` over them is the code's chain of tests.
use mathlib.Core.Path.{sym}
use mathlib.Core.Bool.{or-false, or_assoc}
use Rattle.seq.proofs.Laws.{spelled}
use Rattle.legends.specs.Legends.{head_size, bad_head}
use Rattle.legends.proofs.bad_head.Goals as goal

pub returns : goal.returns
unfolding bad_head
returns c = simp (c.from.ensures, c.from-2.ensures, c.read-h.ensures, sym (spelled 0 0 head_size c.args.s.now c.requires), or-false, or_assoc)
