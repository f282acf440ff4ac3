-- Its step where the contents are good, or 9 and nothing written.
use mathlib.Core.Path.{sym}
use borrow.Author.Rules.{rules}
use Rattle.calls.specs.Calls.{compose}
use Rattle.serve.proofs.Steps.{call-unsound, call-sound, call-room, judged}
use Rattle.serve.proofs.compose.Goals as goal

pub returns-in_default : goal.returns-in_default
returns-in_default c = call-unsound _ _ _ (search rules) (sym c.in_default.ensures.sound) c.unread.ensures

pub copy_page-requires : goal.copy_page-requires
copy_page-requires c = let h = rw c.unwrap-state.ensures at c.as_array.ensures.cases in rw h.same (judged (sym c.in-Some.ensures.sound) c.in-Some.ensures.form)

pub pack-requires : goal.pack-requires
pack-requires c = let h = rw c.unwrap-state.ensures at c.as_array.ensures.cases in call-room _ _ (compose c.args.copy c.args.out.now) c.copy_page.result (search rules) (rw h.same at c.copy_page.ensures)

pub returns : goal.returns
returns c = let h = rw c.unwrap-state.ensures at c.as_array.ensures.cases in call-sound _ _ (compose c.args.copy c.args.out.now) c.copy_page.result (sym c.in-Some.ensures.sound) (rw h.same at c.copy_page.ensures) c.pack.ensures
