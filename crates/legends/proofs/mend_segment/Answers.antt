-- A text has no more unprintable positions than bytes.
use mathlib.Core.Path.{ap}
use native.Mathlib.Omega.{arith}
use lib.ListN.{drop, length-drop}
use Rattle.seq.proofs.Laws.{take_rest}
use Rattle.seq.proofs.Places.{places-few}
use Rattle.line.specs.declared.Unprintables.{Unprintables}
use Rattle.line.specs.Line.{unprintable}
use Rattle.legends.specs.Legends.{head_size}
use Rattle.legends.proofs.mend_segment.Goals as goal

pub then-requires : goal.then-requires
then-requires c =
    let a = c.args in
    let text = drop head_size a.segment.now in
    let count = ap (λ (u : Unprintables). u.count) (rw take_rest at c.mend.ensures.found) in
    omega (arith, count, places-few (unprintable a.pitches) 1 text, length-drop head_size a.segment.now, c.requires.count_fits)
