-- The five parts of `sound-parts`; it returns at the first that is bad.
use mathlib.Core.Path.{◌≡◌, sym}
use mathlib.Core.Bool.{true}
use native.Mathlib.Omega.{arith}
use Rattle.calls.specs.Core.{stores_of, sizes_ok}
use Rattle.calls.proofs.Good.{sizes-good}
use Rattle.std.specs.Prelude.{Option, None, Some, IfSome}
use Rattle.state.proofs.Round.{readable-size}
use Rattle.state.proofs.Sound.{sound-parts}
use Rattle.state.proofs.judge.judge.Goals as goal

either_way : {A P : Type 0} (o : Option A) → P → IfSome o (λ _. P)
either_way None p = tt
either_way (Some x) p = p

pub legends_ok-requires : goal.legends_ok-requires
legends_ok-requires c = let a = c.args in
    let h : sizes_ok (stores_of a.page.now a.legends.now a.tables.now) ≡ true = cc in
    (sizes-good _ h).legends

pub marks_ok-requires : goal.marks_ok-requires
marks_ok-requires c = let a = c.args in
    let h : sizes_ok (stores_of a.page.now a.legends.now a.tables.now) ≡ true = cc in
    omega (arith, (sizes-good _ h).page)

pub returns-clause-size : goal.returns-clause-size
returns-clause-size c = either_way c.then_some.result (readable-size _ (sym c.in_ok-readable.ensures.variant))

pub returns-then-not-sizes_ok-clause-sound : goal.returns-then-not-sizes_ok-clause-sound
returns-then-not-sizes_ok-clause-sound c = grind (arith, sound-parts)

pub returns-in_err-readable-clause-sound : goal.returns-in_err-readable-clause-sound
returns-in_err-readable-clause-sound c = grind (arith, sound-parts)

pub returns-in_err-form-clause-sound : goal.returns-in_err-form-clause-sound
returns-in_err-form-clause-sound c = grind (arith, sound-parts)

pub returns-then-not-legends_ok-clause-sound : goal.returns-then-not-legends_ok-clause-sound
returns-then-not-legends_ok-clause-sound c = grind (arith, sound-parts)

pub returns-clause-sound : goal.returns-clause-sound
returns-clause-sound c = grind (arith, sound-parts)
