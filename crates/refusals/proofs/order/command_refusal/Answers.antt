-- A load's check comes to none or to one; and no command completes two pages.
use native.Mathlib.Omega.{arith}
use Rattle.std.proofs.lemmas.Grind.{common_steps}
use Rattle.seq.specs.Words.{when, first_or}
use Rattle.numbers.specs.Numbers.{row_of, is_accepted, checked}
use Rattle.calls.proofs.Refused.{one-page-only}
use Rattle.refusals.proofs.order.command_refusal.Goals as goal

pub returns-in_err-map_err : goal.returns-in_err-map_err
unfolding is_accepted row_of first_or when checked
returns-in_err-map_err c = grind (arith, common_steps)

pub returns-then-replies-reply : goal.returns-then-replies-reply
unfolding is_accepted row_of first_or when checked
returns-then-replies-reply c = grind (arith, common_steps)

pub returns : goal.returns
unfolding is_accepted row_of first_or when checked
returns c = grind (arith, common_steps, one-page-only)
