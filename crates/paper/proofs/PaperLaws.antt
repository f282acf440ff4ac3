-- Laws of the numbers that 16 lets pass, and of their product.
use Prim.Native.Nat.{ℕ, zero, suc, ◌*◌, ◌/◌, ◌%◌, ◌≤◌}
use mathlib.Core.Path.{◌≡◌, refl, sym, ap, ◌∙◌}
use mathlib.Core.Bool.{Bool, true, false, not, cond}
use mathlib.Core.Logic.{◌⊎◌, inl, inr}
use mathlib.Core.List.{[], ◌∷◌, map}
use native.Mathlib.Omega.{arith}
use native.Mathlib.Nat.{mul_assoc, mul-le-mul, mul-mod_left}
use lib.Dec.{eqb}
use lib.IntN.{pos, negsuc}
use lib.Ieee.{fin, round}
use borrow.Author.Tests.{ltb-false, eqb-true, eqb-false, not-false}
use Rattle.seq.specs.Words.{listed}
use Rattle.seq.proofs.Laws.{or_left, or_right, listed-all}
use Rattle.numbers.specs.Numbers.{row_of, number_of}
use Rattle.form.specs.Form.{form_lengths}
use Rattle.form.proofs.FormLaws.{shortest, longest, short-form, long-form}
use Rattle.copies.specs.Copies.{most_copies}
use Rattle.counters.specs.Counters.{between, most_count}
use Rattle.counters.proofs.CounterLaws.{between-most}
use Rattle.paper.specs.Feet.{Sent, sent, product, bad_paper, no_feet, refused_paper, shown_paper, paper_used}

pub record Passes (copies form : ℕ) : Type 0 where
  pub known : listed form_lengths form ≡ true
  pub long : shortest ≤ form
  pub short : form ≤ longest
  pub some : 1 ≤ copies
  pub few : copies ≤ most_copies

pub passes : (copies form : ℕ) → bad_paper copies form ≡ false → Passes copies form
unfolding bad_paper
passes copies form e =
    let known = not-false _ (or_left (not (listed form_lengths form)) _ e) in
    let counted = or_right (not (listed form_lengths form)) _ e in
    let other = eqb-false copies 0 (or_left (eqb copies 0) _ counted) in
    record {
      known = known;
      long = long-form form known;
      short = short-form form known;
      some = omega (arith, other);
      few = ltb-false _ _ (or_right (eqb copies 0) _ counted);
    }

-- the largest product: as many pages as identifiers can differ by, in as many copies as there may be, on the longest form
abbrev pub most_product : ℕ
most_product = most_count * most_copies * longest

pub factors_most : (pages copies form : ℕ) → bad_paper copies form ≡ false → pages ≤ most_count → pages * copies * form ≤ most_product
factors_most pages copies form e h = let g = passes _ _ e in mul-le-mul (mul-le-mul h g.few) g.short

pub product-most : (t : Sent) → bad_paper t.copies t.form ≡ false → product t ≤ most_product
unfolding product
product-most t e = factors_most _ _ _ e (between-most t.final t.initial)

-- no paper, or a page of the shortest form at least
pub product-least : (t : Sent) → bad_paper t.copies t.form ≡ false → (product t ≡ 0) ⊎ (shortest ≤ product t)
unfolding product
product-least t e = some (between t.final t.initial)
  where
    some : (pages : ℕ) → (pages * t.copies * t.form ≡ 0) ⊎ (shortest ≤ pages * t.copies * t.form)
    some zero = inl (omega arith)
    some (suc n) = let g = passes _ _ e in inr (mul-le-mul {n₁ = 1} (mul-le-mul {n₁ = 1} {n₂ = suc n} (omega arith) g.some) g.long)

-- every listed length is whole half inches, so that 3 divides it, and the product
pub product-thirds : (t : Sent) → bad_paper t.copies t.form ≡ false → product t % 3 ≡ 0
unfolding product form_lengths
product-thirds t e =
    let m = t.form / 3 in
    let sheets = between t.final t.initial * t.copies in
    let h : t.form % 3 ≡ 0 = eqb-true _ _ (listed-all (λ n. eqb (n % 3) 0) t.form form_lengths refl (passes _ _ e).known) in
    let whole : t.form ≡ m * 3 = omega (arith, h) in
    ap (λ (n : ℕ). sheets * n % 3) whole ∙ ap (λ (n : ℕ). n % 3) (sym (mul_assoc sheets m 3)) ∙ mul-mod_left (sheets * m) 3

-- 16 is given exactly for such numbers, whatever the identifiers, and then the feet are +0.
pub sixteen-exactly : (t : Sent) → eqb (number_of (paper_used t).refusal) 16 ≡ bad_paper t.copies t.form
unfolding paper_used row_of
sixteen-exactly t = by (bad_paper t.copies t.form)
  where
    by : (b : Bool) → eqb (number_of (cond b refused_paper (shown_paper (product t))).refusal) 16 ≡ b
    by true = refl
    by false = refl

pub sixteen-none : (t : Sent) → bad_paper t.copies t.form ≡ true → (paper_used t).feet ≡ no_feet
unfolding paper_used
sixteen-none t e = rw e

-- Of form lengths and copies, those next to the listed ones and at both ends are refused, and so is a length in half inches.
pub sixteen-table : map (λ n. bad_paper 1 n) (0 ∷ 7 ∷ 71 ∷ 72 ∷ 73 ∷ 84 ∷ 132 ∷ 264 ∷ 287 ∷ 288 ∷ 289 ∷ [])
    ≡ true ∷ true ∷ true ∷ false ∷ true ∷ false ∷ false ∷ false ∷ true ∷ false ∷ true ∷ []
unfolding bad_paper form_lengths
sixteen-table = refl

pub copies-table : map (λ n. bad_paper n 84) (0 ∷ 1 ∷ 2 ∷ 254 ∷ 255 ∷ 256 ∷ 65537 ∷ [])
    ≡ true ∷ false ∷ false ∷ false ∷ false ∷ true ∷ true ∷ []
unfolding bad_paper form_lengths
copies-table = refl

-- The manual's sum: 24 pages of 3 1/2 inches are 7 feet; the same across the wrap of the identifier; 12 pages in 2 copies of 12 inches are 24 feet; a page
-- of 6 inches is half a foot; no page is none.
pub feet-table : map (λ t. (paper_used t).feet) (sent 0 24 1 84 ∷ sent 65530 18 1 84 ∷ sent 5 17 2 288 ∷ sent 65535 0 1 144 ∷ sent 9 9 255 288 ∷ [])
    ≡ fin false 7 (pos 0) ∷ fin false 7 (pos 0) ∷ fin false 3 (pos 3) ∷ fin false 1 (negsuc 0) ∷ no_feet ∷ []
unfolding paper_used bad_paper form_lengths product round
feet-table = refl
