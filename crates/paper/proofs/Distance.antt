-- Document 02, T-04: how far the feet that are shown are from the exact fraction, for every transmission that is not refused; and where they are equal.
use Prim.Native.Nat.{ℕ, ◌+◌, ◌*◌, ◌/◌, ◌%◌, ◌^◌, ◌≤◌, ◌<◌}
use mathlib.Core.Path.{◌≡◌, refl, sym, subst}
use mathlib.Core.Bool.{false}
use mathlib.Core.Logic.{inl, inr}
use native.Mathlib.Omega.{arith}
use native.Mathlib.Nat.{lt_of_le_of_lt, lt_of_lt_of_le}
use lib.Dec.{lit≤, lit<}
use lib.Ieee.{Float, round}
use Rattle.form.specs.Form.{form_lengths}
use Rattle.paper.specs.Feet.{Sent, sent, product, foot_units, nearest_to, bad_paper, paper_used}
use Rattle.paper.specs.Distance.{Is, Apart, quarter, sixth, Near}
use Rattle.paper.proofs.PaperLaws.{product-most, product-least, product-thirds}
use Rattle.paper.proofs.Rounding.{shown, shown-is, half-apart, third-apart, exact-nine, only-nine}

-- no paper is 0 feet, exactly
none_apart : (w : ℕ) → Apart 0 0 w
none_apart w = record { not-above = omega arith; not-below = omega arith }

near_none : (p : ℕ) → p ≡ 0 → Near p (nearest_to p foot_units)
unfolding round
near_none p e =
    subst (λ (x : ℕ). Near x (nearest_to x foot_units)) (sym e)
    (record { n = 0; is = (refl, refl); half = λ k h. none_apart (quarter * 2 ^ k); third = λ m k h. none_apart (sixth * 2 ^ k) })

near-some : (p : ℕ) → p < 2 ^ 53 → quarter ≤ p → Near p (nearest_to p foot_units)
near-some p fit l =
    record {
      n = shown p l;
      is = shown-is p l fit;
      half = half-apart p l;
      third = third-apart p l fit;
    }

module _ (t : Sent) (e : bad_paper t.copies t.form ≡ false) where
  -- less than 2 ^ 26 quarter feet, which are 2 ^ 24 feet
  pub under : product t < quarter * 2 ^ 26
  under = lt_of_le_of_lt (product-most t e) (lit< tt)

  fit : product t < 2 ^ 53
  fit = lt_of_lt_of_le under (lit≤ tt)

  shown-feet : (paper_used t).feet ≡ nearest_to (product t) foot_units
  unfolding paper_used
  shown-feet = rw e

  -- The distance: half a unit of the double's last digit at most, whatever the product; a third, as 3 divides it.
  pub near : Near (product t) (paper_used t).feet
  near = subst (λ (x : Float). Near (product t) x) (sym shown-feet) (elim (product-least t e) [ inl none ↦ near_none (product t) none | inr some ↦ near-some (product t) fit some ])

  -- For every product: 288 × 2 ^ 24 over 288 × 2 ^ 54 at most, which is 2 ^ -30 feet, less than a billionth of a foot.
  pub farthest : Apart (product t) near.n (foot_units * 2 ^ 24)
  farthest = near.half 26 under

  -- The largest distance is two thirds of that, one part in 1,610,612,736 of a foot, since 3 divides every listed length.
  pub largest : Apart (product t) near.n (sixth * 2 ^ 26)
  largest = near.third (product-thirds t e) 26 under

  -- Equal where the fraction is a double, and it is one exactly where 9 divides the product: only there is any m × 2 ^ e the fraction.
  pub exact-by-nine : product t % 9 ≡ 0 → Is (paper_used t).feet (product t) foot_units
  exact-by-nine h =
      let r = product t / 9 in
      let whole : 9 * r ≡ product t = omega (arith, h) in
      let few : r < 2 ^ 53 = omega (arith, fit) in
      subst (λ (x : Float). Is x (product t) foot_units) (sym shown-feet) (subst (λ (p : ℕ). Is (nearest_to p foot_units) p foot_units) whole (exact-nine r few))

  pub exact : (y : Float) → Is y (product t) foot_units → Is (paper_used t).feet (product t) foot_units
  exact y is = exact-by-nine (only-nine y false (product t) is)

-- That largest distance is reached: by 49,466 pages of 11 inches in 185 copies, which are just over 2 ^ 23 feet.
abbrev far : Sent
far = sent 0 49466 185 264

pub reached : Is (paper_used far).feet 151115748468626896715776 (2 ^ 54) × (foot_units * 151115748468626896715776 + sixth * 2 ^ 26 ≡ product far * 2 ^ 54)
unfolding paper_used bad_paper form_lengths product round
reached = ((refl, refl), refl)
