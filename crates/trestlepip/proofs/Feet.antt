-- Document 02, T-04, as a C host sees it: what is promised of the answer and of the double that a call for feet of paper leaves, whatever it was asked.
use Prim.Native.Nat.{ℕ, ◌*◌, ◌^◌}
use mathlib.Core.Path.{◌≡◌, refl, sym, ap, ◌∙◌, subst}
use mathlib.Core.Bool.{Bool, true, false, cond}
use lib.Ieee.{Float}
use Rattle.numbers.specs.Numbers.{row_of, only}
use Rattle.paper.specs.Feet.{Sent, product, foot_units, bad_paper, no_feet, refused_paper, shown_paper, paper_used}
use Rattle.paper.specs.Distance.{Is, Apart, sixth, Near}
use Rattle.paper.proofs.PaperLaws.{product-thirds, sixteen-none}
use Rattle.paper.proofs.Distance.{under, near, exact}
use Rattle.state.specs.Packed.{packed}
use Rattle.state.specs.Host.{Told, told, feet_told}

-- for every outcome that meets the contract
module _ {answer : ℕ} {feet : Float} (t : Sent) (met : told answer feet ≡ feet_told t) where
  -- The answer is 16 exactly for an unlisted form length or copies 0 or above 255, and 0 for all else: nothing but its number is told.
  pub sixteen-in : answer ≡ cond (bad_paper t.copies t.form) 16 0
  unfolding feet_told paper_used packed row_of
  sixteen-in = ap (λ (r : Told). r.answer) met ∙ by (bad_paper t.copies t.form)
    where
      by : (b : Bool) → packed (only (cond b refused_paper (shown_paper (product t))).refusal 0) ≡ cond b 16 0
      by true = refl
      by false = refl

  left : feet ≡ (paper_used t).feet
  unfolding feet_told
  left = ap (λ (r : Told). r.feet) met

  -- with 16 the feet are +0
  pub none_in : bad_paper t.copies t.form ≡ true → feet ≡ no_feet
  none_in e = left ∙ sixteen-none t e

  module _ (e : bad_paper t.copies t.form ≡ false) where
    pub near-in : Near (product t) feet
    near-in = subst (λ (x : Float). Near (product t) x) (sym left) (near t e)

    -- 2 ^ -30 feet at most; and two thirds of that, which is reached
    pub farthest-in : Apart (product t) near-in.n (foot_units * 2 ^ 24)
    farthest-in = near-in.half 26 (under t e)

    pub largest-in : Apart (product t) near-in.n (sixth * 2 ^ 26)
    largest-in = near-in.third (product-thirds t e) 26 (under t e)

    pub exact-in : (y : Float) → Is y (product t) foot_units → Is feet (product t) foot_units
    exact-in y is = subst (λ (x : Float). Is x (product t) foot_units) (sym left) (exact t e y is)
