-- The three parts of `state-parts`; it returns at the first that is bad.
use native.Mathlib.Omega.{arith}
use Rattle.state.proofs.Sound.{state-parts}
use Rattle.state.proofs.judge.judge_state.Goals as goal

pub returns-then-not-copies_ok-clause-sound : goal.returns-then-not-copies_ok-clause-sound
returns-then-not-copies_ok-clause-sound c = grind (arith, state-parts)

pub returns-clause-sound : goal.returns-clause-sound
returns-clause-sound c = grind (arith, state-parts)
