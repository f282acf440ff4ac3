-- Document 02, T-02: what each call makes of the page counters; and the pages that a list of calls has released, cancelled and stacked, counted over its
-- accepted calls since Start or the latest restart.
use Rattle.std.specs.Prelude.{ℕ, ◌+◌, cond, List, [], ◌∷◌}
use Rattle.numbers.specs.Numbers.{is_accepted}
use Rattle.counters.specs.declared.Counters.{Counters}
use Rattle.counters.specs.declared.Tally.{Tally}
use Rattle.counters.specs.declared.Tally.TheVariants.{Transferred, Fused, Stacked, Cancel, Restart}
use Rattle.counters.specs.Counters.{between, counted, tallied}
use Rattle.calls.specs.Core.{Core}
use Rattle.calls.specs.Calls.{Call, command, compose, release, tally, refusal_of, effect}

-- An accepted Release counts, an accepted report, cancel or restart does what it says, and no other call touches the counters.
unfoldable pub counters_by : Call → Counters → Counters
counters_by (command i) c = c
counters_by (compose n out) c = c
counters_by release c = counted c
counters_by (tally t) c = tallied t c

pub record Pages : Type 0 where
  pub released : ℕ
  pub cancelled : ℕ
  pub stacked : ℕ

abbrev pub no_pages : Pages
no_pages = record { released = 0; cancelled = 0; stacked = 0 }

-- What an accepted call adds, by the counters that it found: a cancel gives up the pages between channel and transfer, and a restart begins anew.
unfoldable pub pages_by_tally : Tally → Counters → Pages → Pages
pages_by_tally Transferred c p = p
pages_by_tally Fused c p = p
pages_by_tally Stacked c p = record { released = p.released; cancelled = p.cancelled; stacked = p.stacked + 1 }
pages_by_tally Cancel c p = record { released = p.released; cancelled = p.cancelled + between c.channel c.transfer; stacked = p.stacked }
pages_by_tally Restart c p = no_pages

unfoldable pub pages_by : Call → Counters → Pages → Pages
pages_by (command i) c p = p
pages_by (compose n out) c p = p
pages_by release c p = record { released = p.released + 1; cancelled = p.cancelled; stacked = p.stacked }
pages_by (tally t) c p = pages_by_tally t c p

unfoldable pub pages_over : Core → Pages → List Call → Pages
pages_over k p [] = p
pages_over k p (c ∷ cs) = pages_over (effect k c).core (cond (is_accepted (refusal_of k c)) (pages_by c k.state.counters p) p) cs
