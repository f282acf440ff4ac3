-- One byte set among zeros, as many as the form has lines at 6 to the inch.
use mathlib.Core.Path.{sym}
use native.Mathlib.Omega.{arith}
use Rattle.form.proofs.FormLaws.{short-form, start-forms, start-room}
use Rattle.printer.proofs.Printer.start_fcb.Goals as goal

pub returns : goal.returns
returns c = let room = start-room c.args.length c.requires in sym (start-forms c.args.length room.0 room.1)

pub overflow_cast-result : goal.overflow_cast-result
overflow_cast-result c = omega (arith, short-form c.args.length c.requires)
