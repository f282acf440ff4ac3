-- How many copies there are, and how many lines.
use native.Mathlib.Omega.{arith}
use Rattle.std.proofs.lemmas.Grind.{common_steps}
use Rattle.seq.specs.Words.{when, first_or}
use Rattle.numbers.specs.Numbers.{row_of, is_accepted}
use Rattle.form.specs.Form.{layout_of}
use Rattle.copies.specs.Copies.{copy_count}
use Rattle.calls.specs.Core.{lines_now}
use Rattle.refusals.proofs.order.compose_refusal.Goals as goal

pub returns-then-not-contains : goal.returns-then-not-contains
unfolding is_accepted row_of first_or when copy_count
returns-then-not-contains c = grind (arith, common_steps)

pub returns-then-out-from : goal.returns-then-out-from
unfolding is_accepted row_of first_or when copy_count lines_now layout_of
returns-then-out-from c = grind (arith, common_steps)

pub returns : goal.returns
unfolding is_accepted row_of first_or when copy_count lines_now layout_of
returns c = grind (arith, common_steps)
