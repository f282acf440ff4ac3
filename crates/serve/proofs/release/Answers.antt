-- Its step where the contents are good, or 9 and nothing written.
use mathlib.Core.Path.{sym}
use borrow.Author.Rules.{rules}
use Rattle.calls.specs.Calls.{release}
use Rattle.serve.proofs.Steps.{call-unsound, call-sound, call-room, judged}
use Rattle.serve.proofs.release.Goals as goal

pub returns-in_default : goal.returns-in_default
returns-in_default c = call-unsound _ _ _ (search rules) (sym c.in_default.ensures.sound) c.unread.ensures

pub release_page-requires : goal.release_page-requires
release_page-requires c = let h = rw c.unwrap-state.ensures at c.as_mut_array.ensures.cases in rw h.same (judged (sym c.in-Some.ensures.sound) c.in-Some.ensures.form)

pub pack-requires : goal.pack-requires
pack-requires c = let h = rw c.unwrap-state.ensures at c.as_mut_array.ensures.cases in call-room _ _ (release) c.release_page.result (search rules) (rw h.same at c.release_page.ensures)

pub returns : goal.returns
returns c = let h = rw c.unwrap-state.ensures at c.as_mut_array.ensures.cases in call-sound _ _ (release) c.release_page.result (sym c.in-Some.ensures.sound) (rw h.same at c.release_page.ensures) c.pack.ensures
