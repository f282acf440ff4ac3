-- Laws of the verdict of an order.
use mathlib.Core.Path.{◌≡◌, refl, sym, ◌∙◌}
use mathlib.Core.Bool.{Bool, true, false, cond}
use Rattle.std.specs.Prelude.{Result, Ok, Err}
use Rattle.numbers.specs.declared.Refusal.{Refusal}
use Rattle.numbers.specs.declared.Refusal.TheVariants.{Accepted}
use Rattle.numbers.specs.Numbers.{is_accepted}
use Rattle.numbers.proofs.Laws.{accepted-is}
use Rattle.refusals.specs.Verdict.{verdict}

-- it is `Ok` for Accepted alone, and `Err` for the others, with the refusal itself
only-ok : (b : Bool) (x : Refusal) → ◌≡◌ {A = Result Unit Refusal} (cond b (Ok tt) (Err x)) (Ok tt) → b ≡ true
only-ok true x e = refl
only-ok false x e = cc

only-err : (b : Bool) (x y : Refusal) → ◌≡◌ {A = Result Unit Refusal} (cond b (Ok tt) (Err x)) (Err y) → (x ≡ y) × (b ≡ false)
only-err true x y e = cc
only-err false x y e = (cc, refl)

pub accepts : (x : Refusal) {r : Result Unit Refusal} → r ≡ verdict x → r ≡ Ok tt → is_accepted x ≡ true
accepts x given e = only-ok (is_accepted x) x (sym given ∙ e)

module _ {x : Refusal} {r : Result Unit Refusal} (given : r ≡ verdict x) where
  pub granted : r ≡ Ok tt → x ≡ Accepted
  granted e = accepted-is x (accepts x given e)

  pub refuses : {y : Refusal} → r ≡ Err y → (x ≡ y) × (is_accepted x ≡ false)
  refuses {y} e = only-err (is_accepted x) x y (sym given ∙ e)
