-- After checks 2 and 3 no line crosses the border of an edge half inch, so that where a line starts says where all of it lies.
use Prim.Native.Nat.{ℕ, ◌+◌, ◌-◌, ◌%◌, ◌≤◌, ◌<◌}
use mathlib.Core.Path.{◌≡◌, refl, ◌∙◌}
use mathlib.Core.Bool.{Bool, true, false, not, ◌&&◌, ◌||◌, true≢false}
use mathlib.Core.List.{List, [], ◌∷◌}
use native.Mathlib.Omega.{arith}
use lib.Dec.{eqb, ltb}
use borrow.Author.Tests.{eqb-true, ltb-true, le-ltb, not-false}
use Rattle.seq.proofs.Laws.{or_left, or_right}
use Rattle.form.specs.Form.{upper, units_of, units, half_inch, units_total, other_upper, odd_run}
use Rattle.form.proofs.FormLaws.{odd, units-has, first-upper, rest-upper}
use Rattle.form.proofs.LayoutLaws.{odd_from, odd-start}

-- Whether a line starts above x and ends below it; the first starts `off` units down.
unfoldable pub straddles : ℕ → ℕ → List ℕ → Bool
straddles x off [] = false
straddles x off (b ∷ bs) = (ltb off x && ltb x (off + units b)) || straddles x (off + units b) bs

-- n is a multiple of u, the units of a spacing.
data Multiple (u n : ℕ) : Type 0 where
  four : u ≡ 4 → n % 4 ≡ 0 → Multiple u n
  three : u ≡ 3 → n % 3 ≡ 0 → Multiple u n
  two : u ≡ 2 → n % 2 ≡ 0 → Multiple u n

next : (u n : ℕ) → Multiple u n → Multiple u (n + u)
next u n (four e h) = four e (omega arith)
next u n (three e h) = three e (omega arith)
next u n (two e h) = two e (omega arith)

-- All of them divide half an inch.
at-half-inch : (u n : ℕ) → eqb (units_of u) 0 ≡ false → n % half_inch ≡ 0 → Multiple (units_of u) n
at-half-inch u n z h =
    units-has (λ m. eqb m 0 ≡ false → Multiple m n) u
    (λ e. four refl (omega arith)) (λ e. three refl (omega arith)) (λ e. two refl (omega arith)) (λ e. absurd (true≢false e)) z

even_is : (n : ℕ) → odd n ≡ false → n % half_inch ≡ 0
even_is n e = eqb-true (n % half_inch) 0 (not-false _ e)

abbrev changes_odd : ℕ → ℕ → ℕ → Bool
changes_odd u off b = not (eqb (upper b) u) && odd off

-- A run starts at a half inch, so that each of its lines starts at a multiple of its units.
multiple-here : (u off b : ℕ) (t : Bool) → eqb (upper b) u ≡ t → Multiple (units_of u) off → eqb (units b) 0 ≡ false → (not t && odd off) ≡ false
    → Multiple (units b) off
multiple-here u off b true k m z e = rw (eqb-true (upper b) u k) m
multiple-here u off b false k m z e = at-half-inch (upper b) off z (even_is off e)

-- x is a whole number of half inches down.
module _ (x : ℕ) (h : x % half_inch ≡ 0) where
  ends_above : (u off : ℕ) → Multiple u off → off < x → off + u ≤ x
  ends_above u off (four e k) l = omega arith
  ends_above u off (three e k) l = omega arith
  ends_above u off (two e k) l = omega arith

  line_clear : (u off : ℕ) → Multiple u off → (t : Bool) → ltb off x ≡ t → (t && ltb x (off + u)) ≡ false
  line_clear u off m false e = refl
  line_clear u off m true e = le-ltb x (off + u) (ends_above u off m (ltb-true off x e))

  lines_clear : (u off : ℕ) (bs : List ℕ) → Multiple (units_of u) off → other_upper bs ≡ false → odd_from u off bs ≡ false → straddles x off bs ≡ false
  unfolding odd_from straddles
  lines_clear u off [] m z e = refl
  lines_clear u off (b ∷ bs) m z e =
      let n = multiple-here u off b (eqb (upper b) u) refl m (first-upper b bs z) (or_left _ _ e) in
      rw (line_clear (units b) off n (ltb off x) refl)
      (lines_clear (upper b) (off + units b) bs (next (units b) off n) (rest-upper b bs z) (or_right (changes_odd u off b) _ e))

even-end : (u off : ℕ) (bs : List ℕ) → odd_from u off bs ≡ false → (off + units_total bs) % half_inch ≡ 0
unfolding odd_from units_total
even-end u off [] e = omega (arith, even_is off e)
even-end u off (b ∷ bs) e = omega (arith, even-end (upper b) (off + units b) bs (or_right (changes_odd u off b) _ e))

pub no-straddle : (len : ℕ) (f : List ℕ) → (other_upper f || odd_run f) ≡ false → units_total f ≡ len
    → (straddles half_inch 0 f ≡ false) × (straddles (len - half_inch) 0 f ≡ false)
unfolding units_of
no-straddle len f c sum =
    let z = or_left (other_upper f) (odd_run f) c in
    let e = odd-start f ∙ or_right (other_upper f) (odd_run f) c in
    let n = even-end 0 0 f e in
    (lines_clear half_inch refl 0 0 f (four refl refl) z e, lines_clear (len - half_inch) (omega arith) 0 0 f (four refl refl) z e)
