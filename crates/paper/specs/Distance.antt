-- Document 02, T-04: the distance between the feet that are shown and the exact fraction, over whole numbers. Every definition here is of that request.
use Rattle.std.specs.Prelude.{ℕ, ◌+◌, ◌*◌, ◌%◌, ◌^◌, ◌≤◌, ◌<◌, ◌≡◌, false, Float}
use Rattle.std.specs.Float.Ieee.Exact.{HasValue}
use Rattle.form.specs.Form.{half_inch}
use Rattle.paper.specs.Feet.{foot_units}

-- The double x is the fraction a / b. In the kit's words: x is m × 2 ^ e with the sign +, no infinity and no NaN; 2 ^ e is the fraction up e / down e of two
-- whole numbers; and m × up e × b is a × down e.
abbrev pub Is : Float → ℕ → ℕ → Type 0
Is x a b = HasValue x false a b

-- Over the denominator 288 × 2 ^ 54, which they have in common, n / 2 ^ 54 is 288 × n, and the exact fraction p / 288 is p × 2 ^ 54. These two differ by
-- d at most: so the feet differ by d / (288 × 2 ^ 54) at most.
pub record Apart (p n d : ℕ) : Type 0 where
  pub not-above : foot_units * n ≤ p * 2 ^ 54 + d
  pub not-below : p * 2 ^ 54 ≤ foot_units * n + d

-- A quarter and a sixth of a foot, three inches and two, in our units.
abbrev pub quarter : ℕ
quarter = 6 * half_inch

abbrev pub sixth : ℕ
sixth = 4 * half_inch

-- The double x is a whole number of 2 ^ -54 feet, n. For any k with fewer than 2 ^ k quarter feet it differs from p / 288 by no more than 72 × 2 ^ k over
-- 288 × 2 ^ 54: for the least such k that is half a unit of the double's last digit. Where 3 divides p it is 48 × 2 ^ k, a third of that unit.
pub record Near (p : ℕ) (x : Float) : Type 0 where
  pub n : ℕ
  pub is : Is x n (2 ^ 54)
  pub half : (k : ℕ) → p < quarter * 2 ^ k → Apart p n (quarter * 2 ^ k)
  pub third : p % 3 ≡ 0 → (k : ℕ) → p < quarter * 2 ^ k → Apart p n (sixth * 2 ^ k)
