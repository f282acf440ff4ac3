-- Where the sound segments end, the legends do, and all that is left has to be 00.
use mathlib.Core.Path.{sym, ◌∙◌}
use Rattle.legends.proofs.StoredLaws.{ok_end}
use Rattle.legends.proofs.legends_ok.Goals as goal

pub returns : goal.returns
returns c = c.zero_from.ensures ∙ sym (c.after_sound.ensures.stored ∙ ok_end _ c.after_sound.ensures.stops)
