-- Law `put-counters-bytes`.
use borrow.Author.Rules.{rules}
use mathlib.Core.Path.{◌∙◌}
use Rattle.state.proofs.Round.{put-counters-bytes}
use Rattle.state.proofs.codec.put_counters.Goals as goal

pub returns-clause-state : goal.returns-clause-state
returns-clause-state c = c.lay_counters.ensures ∙ put-counters-bytes _ _ (search rules) c.requires
