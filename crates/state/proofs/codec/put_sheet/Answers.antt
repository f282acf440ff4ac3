-- Law `put-sheet-bytes`.
use borrow.Author.Rules.{rules}
use mathlib.Core.Path.{◌∙◌}
use Rattle.state.proofs.Round.{put-sheet-bytes}
use Rattle.state.proofs.codec.put_sheet.Goals as goal

pub returns-clause-state : goal.returns-clause-state
returns-clause-state c = c.lay_sheet.ensures ∙ put-sheet-bytes _ _ (search rules) c.requires
