-- Document 01, "Numbers": what an order of refusals comes to. It gives row 0, Accepted, where no refusal holds, and otherwise the first that does.
use Rattle.std.specs.Prelude.{cond, Result, Ok, Err}
use Rattle.numbers.specs.declared.Refusal.{Refusal}
use Rattle.numbers.specs.Numbers.{is_accepted}

abbrev pub verdict : Refusal → Result Unit Refusal
verdict x = cond (is_accepted x) (Ok tt) (Err x)
