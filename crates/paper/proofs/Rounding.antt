-- A whole number over 288, rounded once to a double: how far that is from the exact fraction, where it is equal, and that the code's division is this.
use Prim.Native.Nat.{ℕ, zero, suc, ◌+◌, ◌-◌, ◌*◌, ◌/◌, ◌%◌, ◌^◌, ◌≤◌, ◌<◌, compare, Ordering}
use mathlib.Core.Path.{◌≡◌, sym, ap, ◌∙◌, subst}
use mathlib.Core.Bool.{Bool, true, false, not, true≢false}
use native.Mathlib.Nat.{le_trans, le_of_eq, le_of_lt, lt_of_le_of_lt, lt_of_lt_of_le, lt_of_not-le, not-le_of_lt, mul_comm, mul_assoc, mul_left_comm, mul_right_comm, mul-one, pow-suc, mul-pos, mul-le-mul_right, mul-le-mul_left, mul-lt-mul_of_pos_right, le_of_mul-le-mul_right, eq_of_mul-eq-mul_right, div-add-mod', mod-lt, le-div_iff_mul-le, div-lt_iff_lt-mul}
use native.Mathlib.Omega.{arith}
use lib.Dec.{T, is_le, compare_is_eq, leb→le, nleb→lt, eqb→eq, lit≤, lit<}
use lib.IntN.{pos, negsuc}
use lib.Pow.{pow-add, pow_pos, pow_mono}
use lib.Ieee.{Float, nan, inf, fin, up, down, binary64, nearest, size, div, of_int, of_bits}
use lib.Ieee.Nearest.{closest}
use lib.Ieee.Fits.{down_pos}
use lib.Ieee.Digits.{size-lt, size-le, back}
use lib.Ieee.Order.{drop, kept}
use lib.Ieee.Exact.{HasValue, round_exact}
use lib.Ieee.Scale.{grid, overflow, round_val, round_same}
use Rattle.paper.specs.Feet.{foot_units, nearest_to}
use Rattle.paper.specs.Distance.{Apart, quarter, sixth}

-- a third of a foot
abbrev third : ℕ
third = 2 * sixth

-- the nearest whole number to a / b is within a half of it
record Half (z a b : ℕ) : Type 0 where
  pub not-above : 2 * (z * b) ≤ 2 * a + b
  pub not-below : 2 * a ≤ 2 * (z * b) + b

tie : (q r b t : ℕ) → t ≤ 1 → r * 2 ≡ b → Half (q + t) (q * b + r) b
tie q r b t h e = let x : t * b ≤ 1 * b = mul-le-mul_right b h in record { not-above = omega arith; not-below = omega arith }

half : (q r b : ℕ) (o : Ordering) → (T (is_le o) → r * 2 ≤ b) → (T (not (is_le o)) → b < r * 2) → (T (compare_is_eq o) → r * 2 ≡ b) → r < b
    → Half (nearest q o) (q * b + r) b
half q r b Ordering.lt h k e l = let x = h tt in record { not-above = omega arith; not-below = omega arith }
half q r b Ordering.eq h k e l = tie q r b (q % 2) (omega arith) (e tt)
half q r b Ordering.gt h k e l = let x = k tt in record { not-above = omega arith; not-below = omega arith }

closest-half : (a b : ℕ) → 0 < b → Half (closest a b) a b
closest-half a b B =
    subst (λ (x : ℕ). Half (closest a b) x b) (div-add-mod' a b)
    (half (a / b) (a % b) b (compare (a % b * 2) b) (leb→le (a % b * 2) b) (nleb→lt (a % b * 2) b) (eqb→eq (a % b * 2) b) (mod-lt a B))

-- a common factor of both can be left out
half-lowered : (z n b h : ℕ) → 0 < h → Half z (n * h) (b * h) → Half z n b
half-lowered z n b h H c =
    let e : z * b * h ≡ z * (b * h) = mul_assoc z b h in
    let above = c.not-above in
    let below = c.not-below in
    record { not-above = le_of_mul-le-mul_right {k = h} (omega arith) H; not-below = le_of_mul-le-mul_right {k = h} (omega arith) H }

-- Of p × 2 ^ 54 over 288 × j, z is the nearest whole number: then z × j is within half of j of p × 2 ^ 54 over 288. k is 2 × j at least.
within-half : (z p j k : ℕ) → 2 * j ≤ k → Half z (p * 2 ^ 54) (foot_units * j) → Apart p (z * j) (quarter * k)
within-half z p j k h c =
    let e : z * (foot_units * j) ≡ foot_units * (z * j) = mul_left_comm z foot_units j in
    let above = c.not-above in
    let below = c.not-below in
    record { not-above = omega arith; not-below = omega arith }

-- Where p × 2 ^ 54 is a whole number of thirds of 288 × j, it is within a third.
within-third : (z p c j k : ℕ) → 0 < j → 2 * j ≤ k → p * 2 ^ 54 ≡ c * (third * j) → Half z (p * 2 ^ 54) (foot_units * j) → Apart p (z * j) (sixth * k)
within-third z p c j k J h e s =
    let u = third * j in
    let n : Half z c 3 = half-lowered z c 3 u (mul-pos (lit< tt) J) (subst (λ (x : ℕ). Half z x (3 * u)) e (subst (λ (x : ℕ). Half z (p * 2 ^ 54) x) (mul_assoc 3 third j) s)) in
    let above : 3 * z ≤ c + 1 = (let x = n.not-above in omega arith) in
    let below : c ≤ 3 * z + 1 = (let x = n.not-below in omega arith) in
    let above-all : 3 * z * u ≤ (c + 1) * u = mul-le-mul_right u above in
    let below_all : c * u ≤ (3 * z + 1) * u = mul-le-mul_right u below in
    let same : 3 * z * u ≡ foot_units * (z * j) = ap (λ (x : ℕ). x * u) (mul_comm 3 z) ∙ mul_assoc z 3 u ∙ ap (λ (x : ℕ). z * x) (sym (mul_assoc 3 third j)) ∙ mul_left_comm z foot_units j in
    record { not-above = omega arith; not-below = omega arith }

-- the same value over another denominator
lowered : (x : Float) (g N s h : ℕ) → 0 < h → g ≡ N * h → HasValue x false g (s * h) → HasValue x false N s
lowered nan g N s h l e v = v
lowered (inf t) g N s h l e v = v
lowered (fin t m y) g N s h l e v = (
  v.0,
  eq_of_mul-eq-mul_right h l (m * up y * s) (N * down y)
      (mul_assoc (m * up y) s h ∙ v.1 ∙ ap (λ (c : ℕ). c * down y) e ∙ mul_right_comm N h (down y)),
)

-- both sides of a comparison times h
times-less : (p d k h : ℕ) → 0 < h → 4 * p < d * k → p * (4 * h) < k * h * d
times-less p d k h H l =
    lt_of_le_of_lt (le_of_eq (mul_left_comm p 4 h ∙ sym (mul_assoc 4 p h))) (lt_of_lt_of_le (mul-lt-mul_of_pos_right l H) (le_of_eq (mul_assoc d k h ∙ mul_comm d (k * h))))

-- what is rounded to a multiple of u, which is not large, is not large
bounded : (z u d n m : ℕ) → 0 < d → n ≤ m → d * u ≤ m → Half z n (d * u) → z * u ≤ 2 * m
bounded z u d n m D h k c =
    let once : 1 * (z * u) ≤ d * (z * u) = mul-le-mul_right (z * u) D in
    let same : z * (d * u) ≡ d * (z * u) = mul_left_comm z d u in
    let a = c.not-above in
    omega arith

-- A double's least unit is 2 ^ -1074. In these units the fraction p / 288 is n / 288, and its double is z × 2 ^ a: a digits are dropped. Powers of two stand
-- behind variables in the laws above, since their numerals are too long to reckon with.
module _ (p : ℕ) where
  abbrev n : ℕ
  n = p * 2 ^ 1074

  abbrev a : ℕ
  a = drop 53 n foot_units

  abbrev z : ℕ
  z = kept 53 n foot_units

  -- fewer than 2 ^ k quarters drop k + 1019 digits at most; one quarter at least drops 1020 at least, so that nothing is left below 2 ^ -54
  dropped-most : (k : ℕ) → p < quarter * 2 ^ k → a ≤ k + 1019
  dropped-most k l =
      let under : n / foot_units < 2 ^ (k + 1072) = (div-lt_iff_lt-mul (lit< tt)).1 (subst (λ (x : ℕ). n < x * foot_units) (sym (pow-add 2 k 1072)) (times-less p foot_units (2 ^ k) (2 ^ 1072) (pow_pos 1072) (omega (arith, l)))) in
      let few : size (n / foot_units) ≤ k + 1072 = size-le (n / foot_units) (k + 1072) under in
      omega arith

  dropped-least : quarter ≤ p → 1020 ≤ a
  dropped-least l =
      let over : 2 ^ 1072 ≤ n / foot_units = (le-div_iff_mul-le (lit< tt)).1 (le_trans (mul-le-mul_left (2 ^ 1072) (mul-le-mul_left 4 l)) (le_of_eq (sym (mul_assoc (2 ^ 1072) 4 p) ∙ mul_comm (2 ^ 1074) p))) in
      let many : 1072 < size (n / foot_units) = lt_of_not-le (λ (g : size (n / foot_units) ≤ 1072). not-le_of_lt (lt_of_lt_of_le (size-lt (n / foot_units)) (pow_mono g)) over) in
      omega arith

  kept_half : Half z n (foot_units * 2 ^ a)
  kept_half = closest-half n (foot_units * 2 ^ a) (mul-pos (lit< tt) (pow_pos a))

  module _ (l : quarter ≤ p) where
    -- the unit of the last digit, and the double, in units of 2 ^ -54
    abbrev unit : ℕ
    unit = 2 ^ (a - 1020)

    abbrev pub shown : ℕ
    shown = z * unit

    unit-of : 2 ^ a ≡ unit * 2 ^ 1020
    unit-of = ap (λ (c : ℕ). 2 ^ c) (sym (back a 1020 (dropped-least l))) ∙ pow-add 2 (a - 1020) 1020

    unit-most : (k : ℕ) → p < quarter * 2 ^ k → 2 * unit ≤ 2 ^ k
    unit-most k few =
        let least = dropped-least l in
        let most = dropped-most k few in
        le_trans (le_of_eq (mul_comm 2 unit ∙ sym (pow-add 2 (a - 1020) 1))) (pow_mono (omega arith))

    shown-half : Half z (p * 2 ^ 54) (foot_units * unit)
    shown-half =
        half-lowered z (p * 2 ^ 54) (foot_units * unit) (2 ^ 1020) (pow_pos 1020)
        (subst (λ (x : ℕ). Half z x (foot_units * unit * 2 ^ 1020)) (sym (mul_assoc p (2 ^ 54) (2 ^ 1020)))
        (subst (λ (x : ℕ). Half z n x) (ap (λ (c : ℕ). foot_units * c) unit-of ∙ sym (mul_assoc foot_units unit (2 ^ 1020))) kept_half))

    pub half-apart : (k : ℕ) → p < quarter * 2 ^ k → Apart p shown (quarter * 2 ^ k)
    half-apart k few = within-half z p unit (2 ^ k) (unit-most k few) shown-half

    module _ (fit : p < 2 ^ 53) where
      pub shown-is : HasValue (nearest_to p foot_units) false shown (2 ^ 54)
      shown-is =
          let low : 2 ^ a ≤ 2 ^ 1072 = pow_mono (dropped-most 53 (lt_of_lt_of_le fit (lit≤ tt))) in
          let all : foot_units * 2 ^ a ≤ 2 ^ 1127 = le_trans (mul-le-mul_left foot_units low) (lit≤ tt) in
          let fine : grid binary64 p foot_units < overflow binary64 = lt_of_le_of_lt (bounded z (2 ^ a) foot_units n (2 ^ 1127) (lit< tt) (mul-le-mul_right (2 ^ 1074) (le_of_lt fit)) all kept_half) (lit< tt) in
          lowered (nearest_to p foot_units) (z * 2 ^ a) shown (2 ^ 54) (2 ^ 1020) (pow_pos 1020) (ap (λ (c : ℕ). z * c) unit-of ∙ sym (mul_assoc z unit (2 ^ 1020))) (round_val binary64 p foot_units fine)

      -- Where 3 divides p, p × 2 ^ 54 is a whole number of thirds of 288 units, of which the last digit has no more than 2 ^ 49.
      few-digits : a - 1020 ≤ 49
      few-digits = let most = dropped-most 50 (omega (arith, fit)) in omega arith

      thirds : (r : ℕ) → p ≡ 3 * r → p * 2 ^ 54 ≡ r * 2 ^ (49 - (a - 1020)) * (third * unit)
      thirds r h =
          let rest = 49 - (a - 1020) in
          let e : 2 ^ 49 ≡ 2 ^ rest * unit = ap (λ (c : ℕ). 2 ^ c) (sym (back 49 (a - 1020) few-digits)) ∙ pow-add 2 rest (a - 1020) in
          ap (λ (x : ℕ). x * 2 ^ 54) h ∙ mul_right_comm 3 r (2 ^ 54) ∙ mul_comm (3 * 2 ^ 54) r ∙ ap (λ (c : ℕ). r * (third * c)) e
          ∙ ap (λ (c : ℕ). r * c) (mul_left_comm third (2 ^ rest) unit) ∙ sym (mul_assoc r (2 ^ rest) (third * unit))

      pub third-apart : p % 3 ≡ 0 → (k : ℕ) → p < quarter * 2 ^ k → Apart p shown (sixth * 2 ^ k)
      third-apart m k few =
          within-third z p (p / 3 * 2 ^ (49 - (a - 1020))) unit (2 ^ k) (pow_pos (a - 1020)) (unit-most k few) (thirds (p / 3) (omega (arith, m))) shown-half

-- A whole number below 2 ^ 53 is a double, and one division of it by 288.0, which is 9 × 2 ^ 5, is this rounding.
whole : (p : ℕ) → p < 2 ^ 53 → HasValue (of_int binary64 (pos p)) false p 1
unfolding of_int
whole p h = round_exact binary64 false p 1 p 1074 (lit< tt) h (lt_of_le_of_lt (mul-le-mul_right (2 ^ 1074) (le_of_lt h)) (lit< tt)) (sym (mul-one (p * 2 ^ 1074)))

divided-once : (x : Float) (p : ℕ) → HasValue x false p 1 → div binary64 x (fin false 9 (pos 5)) ≡ nearest_to p foot_units
unfolding div
divided-once nan p v = absurd v
divided-once (inf t) p v = absurd v
divided-once (fin true m e) p v = absurd (true≢false v.0)
divided-once (fin false m e) p v =
    round_same binary64 false (m * up e * 1) (foot_units * down e) p foot_units (mul-pos (lit< tt) (down_pos e)) (lit< tt) (let q : m * up e * 1 ≡ p * down e = v.1 in omega arith)

pub divided : (p : ℕ) → p < 2 ^ 53 → div binary64 (of_int binary64 (pos p)) (of_bits binary64 0x4072_0000_0000_0000) ≡ nearest_to p foot_units
unfolding of_bits
divided p h = divided-once _ p (whole p h)

-- Where 9 divides p, p / 288 is r / 32, which is a double, and the rounding changes nothing.
pub exact-nine : (r : ℕ) → r < 2 ^ 53 → HasValue (nearest_to (9 * r) foot_units) false (9 * r) foot_units
exact-nine r h =
    round_exact binary64 false (9 * r) foot_units r 1069 (lit< tt) h (lt_of_le_of_lt (mul-le-mul_right (2 ^ 1069) (le_of_lt h)) (lit< tt))
    (mul_assoc 9 r (2 ^ 1074) ∙ mul_left_comm 9 r (2 ^ 1074) ∙ sym (mul_assoc r (2 ^ 1069) foot_units))

-- Of no other p a number m × 2 ^ e is p / 288. (9 divides the double of a number only if it divides the number, as 10 times it is one more than 9 times.)
nine-of : (c i : ℕ) → c * 9 ≡ i → i % 9 ≡ 0
nine-of c i e = omega arith

nine-half : (i : ℕ) → i * 2 % 9 ≡ 0 → i % 9 ≡ 0
nine-half i h =
    let c = i * 2 / 9 in
    let e : i * 2 ≡ c * 9 = omega arith in
    nine-of (5 * c - i) i (omega arith)

nine-power : (j i : ℕ) → i * 2 ^ j % 9 ≡ 0 → i % 9 ≡ 0
nine-power zero i e = subst (λ (x : ℕ). x % 9 ≡ 0) (mul-one i) e
nine-power (suc j) i e = nine-power j i (nine-half (i * 2 ^ j) (subst (λ (x : ℕ). x % 9 ≡ 0) (ap (λ (x : ℕ). i * x) (pow-suc 2 j) ∙ sym (mul_assoc i (2 ^ j) 2)) e))

pub only-nine : (y : Float) (s : Bool) (p : ℕ) → HasValue y s p foot_units → p % 9 ≡ 0
only-nine nan s p v = absurd v
only-nine (inf t) s p v = absurd v
only-nine (fin t m (pos j)) s p v = nine-power 0 p (nine-of (m * 2 ^ j * 32) (p * 1) (mul_assoc (m * 2 ^ j) 32 9 ∙ v.1))
only-nine (fin t m (negsuc j)) s p v = nine-power (suc j) p (nine-of (m * 1 * 32) (p * 2 ^ suc j) (mul_assoc (m * 1) 32 9 ∙ v.1))
