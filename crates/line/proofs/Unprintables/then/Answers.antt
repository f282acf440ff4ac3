-- What is told of one list after the other.
use mathlib.Core.Path.{◌≡◌, sym, ap, ◌∙◌}
use mathlib.Core.List.{List}
use Prim.Native.Nat.{ℕ}
use lib.ListN.{length}
use Rattle.line.specs.declared.Unprintables.{Unprintables}
use Rattle.line.specs.Line.{told}
use Rattle.line.proofs.UnprintableLaws.{told-after, told-both}
use Rattle.line.proofs.Unprintables.then.Goals as goal

-- how many a list has that is told
counted : {u : Unprintables} (ns : List ℕ) → u ≡ told ns → length ns ≡ u.count
counted ns e = ap (λ (u : Unprintables). u.count) (sym e)

pub returns-then-self-eq0 : goal.returns-then-self-eq0
returns-then-self-eq0 c = λ ns ms e h. h ∙ told-after ns ms (counted ns e ∙ c.if-self-eq0.true)

pub returns-else-self-eq0 : goal.returns-else-self-eq0
returns-else-self-eq0 c = λ ns ms e h. rw (e, h) (told-both ns ms (λ z. c.if-self-eq0.false (sym (counted ns e) ∙ z)))
