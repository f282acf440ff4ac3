-- Its step where the contents are good, or 9 and nothing written.
use mathlib.Core.Path.{sym}
use borrow.Author.Rules.{rules}
use Rattle.calls.specs.Commands.{issued}
use Rattle.calls.specs.Calls.{command}
use Rattle.serve.proofs.Steps.{call-unsound, call-sound, call-room, judged}
use Rattle.serve.proofs.command.Goals as goal

pub returns-in_default : goal.returns-in_default
returns-in_default c = call-unsound _ _ _ (search rules) (sym c.in_default.ensures.sound) c.unread.ensures

pub obey-requires : goal.obey-requires
obey-requires c = let h = rw c.unwrap-state.ensures at c.as_mut_array.ensures.cases in rw h.same (judged (sym c.in-Some.ensures.sound) c.in-Some.ensures.form)

pub pack-requires : goal.pack-requires
pack-requires c = let h = rw c.unwrap-state.ensures at c.as_mut_array.ensures.cases in call-room _ _ (command (issued c.args.byte c.args.sent.now c.args.reply.now)) c.obey.result (search rules) (rw h.same at c.obey.ensures)

pub returns : goal.returns
returns c = let h = rw c.unwrap-state.ensures at c.as_mut_array.ensures.cases in call-sound _ _ (command (issued c.args.byte c.args.sent.now c.args.reply.now)) c.obey.result (sym c.in-Some.ensures.sound) (rw h.same at c.obey.ensures) c.pack.ensures
