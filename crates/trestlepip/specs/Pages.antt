-- T-02 in a host's words: the pages released, cancelled and stacked since Start or the latest restart, counted from the packed answers and from the
-- counters that the host reads.
use Rattle.std.specs.Prelude.{cond, List, [], ◌∷◌, eqb}
use Rattle.calls.specs.Calls.{Call}
use Rattle.calls.specs.Pages.{Pages, pages_by}
use Rattle.state.specs.Host.{Held, held_of, call_on}
use Rattle.trestlepip.specs.Host.{number_in, counters_in}

unfoldable pub pages_in : Held → Pages → List Call → Pages
pages_in h p [] = p
pages_in h p (c ∷ cs) = let k = call_on h c in pages_in (held_of k) (cond (eqb (number_in k.answer) 0) (pages_by c (counters_in h) p) p) cs
