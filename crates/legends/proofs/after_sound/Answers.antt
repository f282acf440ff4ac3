-- A sound segment changes neither what the tests find nor the legends' test, so each turn may leave it behind.
use mathlib.Core.Path.{sym, ap, ◌∙◌}
use borrow.Author.Rules.{rules}
use Rattle.numbers.specs.Numbers.{is_sound}
use Rattle.legends.specs.Legends.{legends_ok}
use Rattle.legends.proofs.SegmentLaws.{judged, sound-first, judged-sound}
use Rattle.legends.proofs.StoredLaws.{ok-sound}
use Rattle.legends.proofs.after_sound.Goals as goal

pub after_first-rest-requires : goal.after_first-rest-requires
after_first-rest-requires c =
    (sound-first c.loop-rest.rest.now (sym (c.is_ok.ensures.value ∙ ap is_sound c.segment_check.ensures) ∙ c.loop-rest-test.true)).size

pub loop-rest-preserved : goal.loop-rest-preserved
loop-rest-preserved c =
    let sound = sym (c.is_ok.ensures.value ∙ ap is_sound c.segment_check.ensures) ∙ c.loop-rest-test.true in
    let next = sym c.after_first-rest.ensures.rest in record {
      fewer = search rules;
      checked = c.loop-rest.invariant.checked ∙ judged-sound _ sound ∙ ap judged next;
      stored = c.loop-rest.invariant.stored ∙ ok-sound _ sound ∙ ap legends_ok next;
    }
