-- Law `put-small-bytes`.
use borrow.Author.Rules.{rules}
use mathlib.Core.Path.{◌∙◌}
use Rattle.state.proofs.Round.{put-small-bytes}
use Rattle.state.proofs.codec.put_small.Goals as goal

pub returns-clause-state : goal.returns-clause-state
returns-clause-state c = c.lay_small.ensures ∙ put-small-bytes _ _ (search rules) c.requires
