-- Its step where the contents are good, or 9 and nothing written.
use mathlib.Core.Path.{sym}
use borrow.Author.Rules.{rules}
use Rattle.calls.specs.Calls.{tally}
use Rattle.state.proofs.Sound.{sound-good}
use Rattle.serve.proofs.Steps.{call-unsound, call-sound, call-room, judged}
use Rattle.serve.proofs.tally.Goals as goal

pub returns-in_default : goal.returns-in_default
returns-in_default c = call-unsound _ _ _ (search rules) (sym c.in_default.ensures.sound) c.unread.ensures

pub keep_count-requires : goal.keep_count-requires
keep_count-requires c = let h = rw c.unwrap-state.ensures at c.as_mut_array.ensures.cases in rw h.same ((judged (sym c.in-Some.ensures.sound) c.in-Some.ensures.form).bytes)

pub pack-requires : goal.pack-requires
pack-requires c = let h = rw c.unwrap-state.ensures at c.as_mut_array.ensures.cases in call-room _ _ (tally c.args.which) c.keep_count.result (search rules) ((rw h.same at c.keep_count.ensures) _ (sound-good _ _ (sym c.in-Some.ensures.sound)))

pub returns : goal.returns
returns c = let h = rw c.unwrap-state.ensures at c.as_mut_array.ensures.cases in call-sound _ _ (tally c.args.which) c.keep_count.result (sym c.in-Some.ensures.sound) ((rw h.same at c.keep_count.ensures) _ (sound-good _ _ (sym c.in-Some.ensures.sound))) c.pack.ensures
