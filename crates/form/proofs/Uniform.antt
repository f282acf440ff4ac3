-- An FCB of one spacing that fills its form needs no pass over it: there is one run, and the edge half inches are as many lines at either end, since
-- every line has the same units.
use Prim.Native.Nat.{ℕ, zero, suc, ◌+◌, ◌*◌, ◌-◌, ◌/◌, ◌%◌, ◌≤◌, ◌<◌}
use mathlib.Core.Path.{◌≡◌, refl, sym, ap, ◌∙◌}
use mathlib.Core.Bool.{Bool, true, false, cond, not, ◌&&◌, ◌||◌, or-false, and-false}
use mathlib.Core.List.{List, [], ◌∷◌, ◌++◌, append-nil}
use native.Mathlib.Nat.{add-zero, add_assoc, div-zero}
use native.Mathlib.Omega.{arith}
use lib.Dec.{eqb, leb, ltb}
use Rattle.std.proofs.Common.{◌⊎◌, inl, inr}
use lib.ListN.{length, get_or, take, drop, length-drop, take-append-drop}
use lib.Seq.{drop-drop, length-take-le, get_or-take}
use borrow.Author.Tests.{eqb-true, eqb-false, ltb-true, ltb-false, leb-true, eq-eqb, ne_eqb, lt-ltb, le-ltb, le-leb, lt-leb, not-true, not-false}
use Rattle.seq.specs.Scan.{past}
use Rattle.seq.specs.Words.{any, every, zero_from}
use Rattle.seq.proofs.Laws.{and_left, and_right, or_left, or_right}
use Rattle.seq.proofs.Loops.{any_append, any-split, past_is}
use Rattle.form.specs.Form.{upper, units_of, units, half_inch, runs, runs_from, units_total, between, lines_where, printable, edges, odd_run, layout_of, last_channel, high_channel, has_channel, fcb_size, forms_in_range}
use Rattle.form.specs.Pass.{astray, edge_most, uniform}
use Rattle.form.proofs.FormLaws.{odd, units-has}

-- No byte of a list is astray from the upper half u.
module _ (u : ℕ) where
  abbrev straight : List ℕ → Type 0
  straight f = any (astray u) f ≡ false

  same-upper : (b : ℕ) → astray u b ≡ false → upper b ≡ u
  same-upper b e = eqb-true (upper b) u (not-false (eqb (upper b) u) (or_left (not (eqb (upper b) u)) (high_channel b) e))

  first-straight : (b : ℕ) (bs : List ℕ) → straight (b ∷ bs) → upper b ≡ u
  first-straight b bs e = same-upper b (or_left (astray u b) (any (astray u) bs) e)

  rest-straight : (b : ℕ) (bs : List ℕ) → straight (b ∷ bs) → straight bs
  rest-straight b bs e = or_right (astray u b) (any (astray u) bs) e

  none_of : (g : ℕ → Bool) → ((b : ℕ) → astray u b ≡ false → g b ≡ false) → (f : List ℕ) → straight f → any g f ≡ false
  none_of g h [] e = refl
  none_of g h (b ∷ bs) e = rw (h b (or_left (astray u b) (any (astray u) bs) e)) (none_of g h bs (rest-straight b bs e))

  units-straight : (f : List ℕ) → straight f → units_total f ≡ units_of u * length f
  unfolding units_total
  units-straight [] e = omega arith
  units-straight (b ∷ bs) e = rw (first-straight b bs e) (omega (arith, units-straight bs (rest-straight b bs e)))

  one-run : (n : ℕ) (f : List ℕ) → straight f → runs_from u n f ≡ (n + units_total f) ∷ []
  unfolding runs_from units_total
  one-run n [] e = rw add-zero refl
  one-run n (b ∷ bs) e =
      rw (eq-eqb (upper b) u (first-straight b bs e)) (one-run (n + units b) bs (rest-straight b bs e) ∙ rw add_assoc refl)

  runs_straight : (f : List ℕ) → straight f → odd_run f ≡ odd (units_total f)
  unfolding runs units_total
  runs_straight [] e = refl
  runs_straight (b ∷ bs) e =
      rw (first-straight b bs e, one-run (units_of u) bs (rest-straight b bs e)) (or-false (odd (units_of u + units_total bs)))

  -- lines of which a test says the same, before others: all of them or none
  front : (t : ℕ → Bool) (v : Bool) (off end : ℕ) (xs ys : List ℕ) → 0 < units_of u → straight xs → off + units_of u * length xs ≡ end
      → ((m : ℕ) → off ≤ m → m < end → t m ≡ v) → lines_where t off (xs ++ ys) ≡ cond v xs [] ++ lines_where t end ys
  unfolding lines_where
  front t true off end [] ys z e k h = let q : off ≡ end = omega arith in rw q refl
  front t false off end [] ys z e k h = let q : off ≡ end = omega arith in rw q refl
  front t v off end (b ∷ bs) ys z e k h =
      let q : units b ≡ units_of u = ap units_of (first-straight b bs e) in
      let s : t off ≡ v = h off (omega arith) (omega arith) in
      rw s (step v (lines_where t (off + units b) (bs ++ ys)) (front t v (off + units b) end bs ys z (rest-straight b bs e) (omega arith) (λ m l r. h m (omega arith) r)))
    where
      step : (w : Bool) (r : List ℕ) → r ≡ cond w bs [] ++ lines_where t end ys → cond w (b ∷ r) r ≡ cond w (b ∷ bs) [] ++ lines_where t end ys
      step true r i = ap (λ (ls : List ℕ). b ∷ ls) i
      step false r i = i

-- An FCB of l lines, of n units each, that fills a form of len units; k lines are a half inch.
record Counts (n k l len : ℕ) : Type 0 where
  pub some : 0 < n
  pub half : n * k ≡ half_inch
  pub inner : half_inch + n * (l - k - k) ≡ len - half_inch
  pub fills : n * l ≡ len
  pub room : k + k ≤ l

counts : (u l len : ℕ) → edge_most ≤ l → half_inch * l ≡ half_inch / units_of u * len → Counts (units_of u) (half_inch / units_of u) l len
counts u l len h =
    units-has (λ n. half_inch * l ≡ half_inch / n * len → Counts n (half_inch / n) l len) u
    (λ e. omega arith) (λ e. omega arith) (λ e. omega arith) (λ e. absurd (omega (arith, rw div-zero at e)))

-- It is its first half inch, the lines between, and its last half inch.
module _ (u k len : ℕ) (f : List ℕ) (s : straight u f) (n : Counts (units_of u) k (length f) len) where
  abbrev top : List ℕ
  top = take k f

  abbrev inner : List ℕ
  inner = take (length f - k - k) (drop k f)

  abbrev foot : List ℕ
  foot = drop (length f - k) f

  foot-rest : drop (length f - k - k) (drop k f) ≡ foot
  foot-rest = let q : k + (length f - k - k) ≡ length f - k = omega arith in drop-drop (length f - k - k) k f ∙ ap (λ (m : ℕ). drop m f) q

  split : f ≡ top ++ (inner ++ foot)
  split = sym (rw (← foot-rest, take-append-drop (length f - k - k) (drop k f)) (take-append-drop k f))

  -- a test that says the same of all lines of each part
  parts : (t : ℕ → Bool) (v w x : Bool) → ((m : ℕ) → m < half_inch → t m ≡ v) → ((m : ℕ) → half_inch ≤ m → m < len - half_inch → t m ≡ w)
      → ((m : ℕ) → half_inch ≤ m → len - half_inch ≤ m → t m ≡ x) → lines_where t 0 f ≡ cond v top [] ++ (cond w inner [] ++ cond x foot [])
  unfolding lines_where
  parts t v w x hv hw hx =
      let any_of = any (astray u) in
      let s₁ = sym (any-split (astray u) k f) ∙ s in
      let s₂ = sym (any-split (astray u) (length f - k - k) (drop k f)) ∙ or_right (any_of top) (any_of (drop k f)) s₁ in
      let s₃ = rw foot-rest at (or_right (any_of inner) _ s₂) in
      let l₁ = length-take-le k f (omega arith) in
      let l₂ = length-take-le (length f - k - k) (drop k f) (rw length-drop (omega arith)) in
      let l₃ : length foot ≡ k = length-drop (length f - k) f ∙ omega arith in
      let last = front u t x (len - half_inch) len foot [] n.some s₃ (rw l₃ (omega arith)) (λ m l r. hx m (omega arith) l) in
      ap (lines_where t 0) split
      ∙ front u t v 0 half_inch top (inner ++ foot) n.some (or_left (any_of top) (any_of (drop k f)) s₁) (rw l₁ (omega arith)) (λ m l r. hv m r)
      ∙ ap (λ (ls : List ℕ). cond v top [] ++ ls)
      (front u t w half_inch (len - half_inch) inner foot n.some (or_left (any_of inner) _ s₂) (rw l₂ n.inner) hw
      ∙ ap (λ (ls : List ℕ). cond w inner [] ++ ls) (simp append-nil at last))

  above : (m : ℕ) → m < half_inch → between len m ≡ false
  above m r = rw (lt-leb half_inch m r) refl

  within : (m : ℕ) → half_inch ≤ m → m < len - half_inch → between len m ≡ true
  within m l r = rw (le-leb half_inch m l, lt-ltb m (len - half_inch) r) refl

  below : (m : ℕ) → half_inch ≤ m → len - half_inch ≤ m → between len m ≡ false
  below m l r = rw (le-leb half_inch m l, le-ltb m (len - half_inch) r) refl

  first-lines : lines_where (λ off. ltb off half_inch) 0 f ≡ top
  first-lines =
      parts (λ off. ltb off half_inch) true false false (λ m r. lt-ltb m half_inch r) (λ m l r. le-ltb m half_inch l) (λ m l r. le-ltb m half_inch l) ∙ append-nil top

  inner-lines : lines_where (between len) 0 f ≡ inner
  inner-lines = parts (between len) false true false above within below ∙ append-nil inner

  edge-lines : lines_where (λ off. not (between len off)) 0 f ≡ top ++ foot
  edge-lines =
      parts (λ off. not (between len off)) true false true (λ m r. ap not (above m r)) (λ m l r. ap not (within m l r)) (λ m l r. ap not (below m l r))

  layout-parts : layout_of len f ≡ record {
    channel = false;
    spacing = odd len;
    units = len;
    edge = any has_channel top || any has_channel foot;
    top = k;
    lines = length f - k - k;
  }
  unfolding layout_of printable edges
  layout-parts =
      let sum : units_total f ≡ len = units-straight u f s ∙ n.fills in
      let known = none_of u (λ b. eqb (units b) 0) (λ b e. rw (same-upper u b e) (ne_eqb (units_of u) 0 (λ q. omega arith))) f s in
      λ i.
      record {
        channel = none_of u high_channel (λ b e. or_right (not (eqb (upper b) u)) _ e) f s i;
        spacing = (ap (λ (t : Bool). t || odd_run f) known ∙ runs_straight u f s ∙ ap odd sum) i;
        units = sum i;
        edge = (ap (any has_channel) edge-lines ∙ any_append has_channel top foot) i;
        top = (ap length first-lines ∙ length-take-le k f (omega arith)) i;
        lines = (ap length inner-lines ∙ length-take-le (length f - k - k) (drop k f) (rw length-drop (omega arith))) i;
      }

pub room-uniform : (len : ℕ) (f : List ℕ) → uniform len f ≡ true → edge_most ≤ length f
unfolding uniform
room-uniform len f e = leb-true edge_most (length f) (and_left (leb edge_most (length f)) _ e)

-- As many bytes as are a half inch at the first byte's spacing.
abbrev pub half_inch_lines : List ℕ → ℕ
half_inch_lines f = half_inch / units (get_or f 0 0)

pub layout-uniform : (len : ℕ) (f : List ℕ) → uniform len f ≡ true → layout_of len f ≡ record {
  channel = false;
  spacing = odd len;
  units = len;
  edge = any has_channel (take (half_inch_lines f) f) || any has_channel (drop (length f - half_inch_lines f) f);
  top = half_inch_lines f;
  lines = length f - half_inch_lines f - half_inch_lines f;
}
unfolding uniform
layout-uniform len f e =
    let u = upper (get_or f 0 0) in
    let fills = eqb (half_inch * length f) (half_inch_lines f * len) in
    let h = and_right (leb edge_most (length f)) _ e in
    let n = counts u (length f) len (room-uniform len f e) (eqb-true (half_inch * length f) (half_inch_lines f * len) (and_left fills _ h)) in
    layout-parts u (half_inch_lines f) len f (not-true (any (astray u) f) (and_right fills _ h)) n

-- A byte of the upper half differs from it by its channel; any other differs by more than the last channel, round the end of the bytes if it lies below.
differs : (u b d : ℕ) → u ≤ 15 → d < 256 → (d + 16 * u) % 256 ≡ b → ltb last_channel d ≡ astray u b
differs u b d h l e = go (eqb (b / 16) u) refl (high_channel b) refl
  where
    go : (s : Bool) → eqb (b / 16) u ≡ s → (t : Bool) → high_channel b ≡ t → ltb last_channel d ≡ (not s || t)
    go true p true q = lt-ltb last_channel d (omega (arith, eqb-true (b / 16) u p, ltb-true last_channel (b % 16) q))
    go true p false q = le-ltb last_channel d (omega (arith, eqb-true (b / 16) u p, ltb-false last_channel (b % 16) q))
    go false p t q = lt-ltb last_channel d (omega (arith, eqb-false (b / 16) u p))

-- So it lies past the upper half by more than the last channel where it is astray.
past-astray : (u b : ℕ) → u ≤ 15 → b ≤ 255 → past (16 * u) last_channel b ≡ astray u b
past-astray u b h l =
    let d = (b + (256 - 16 * u)) % 256 in
    let e : (d + 16 * u) % 256 ≡ b = omega arith in
    sym (past_is (16 * u) last_channel b d (omega arith) (omega arith) e) ∙ differs u b d h (omega arith) e

any-past-astray : (u n : ℕ) (f : List ℕ) → u ≤ 15 → ((k : ℕ) → get_or f k 0 ≤ 255) → any (past (16 * u) last_channel) (take n f) ≡ any (astray u) (take n f)
any-past-astray u zero f h bytes = refl
any-past-astray u (suc n) [] h bytes = refl
any-past-astray u (suc n) (b ∷ f) h bytes =
    rw (past-astray u b h (bytes 0)) (ap (λ (t : Bool). astray u b || t) (any-past-astray u n f h (λ k. bytes (suc k))))

-- A count that leaves no room for the edge half inches, or goes past the array.
pub no-room : (len n : ℕ) (f : List ℕ) → length f ≡ fcb_size → (n < edge_most) ⊎ ((edge_most ≤ n) × (fcb_size < n))
    → (forms_in_range (record { fcb = f; count = n }) && uniform len (take n f)) ≡ false
unfolding forms_in_range every uniform
no-room len n f l (inl few) = simp (length-take-le n f (omega (arith, few, l)), lt-leb edge_most n few, and-false)
no-room len n f l (inr many) = simp (lt-leb n fcb_size many.1)

-- Where the count leaves room, three tests are left: the sum, a scan of the FCB's bytes, and 00 after them.
pub uniform-tests : (len n : ℕ) (f : List ℕ) → edge_most ≤ n → n ≤ fcb_size → length f ≡ fcb_size → ((k : ℕ) → get_or f k 0 ≤ 255)
    → (forms_in_range (record { fcb = f; count = n }) && uniform len (take n f))
    ≡ (eqb (half_inch * n) (half_inch_lines f * len) && (not (any (past (16 * upper (get_or f 0 0)) last_channel) (take n f)) && zero_from n f))
unfolding forms_in_range every uniform
uniform-tests len n f lo hi l bytes =
    let u = upper (get_or f 0 0) in
    rw (length-take-le n f (omega arith), get_or-take n f 0 0 (omega arith), le-leb n fcb_size hi, le-leb edge_most n lo, any-past-astray u n f (omega (arith, bytes 0)) bytes)
    (both (eqb (half_inch * n) (half_inch_lines f * len)) (not (any (astray u) (take n f))) (zero_from n f))
  where
    both : (e a z : Bool) → ((z && true) && (e && a)) ≡ (e && (a && z))
    both e true true = refl
    both e true false = sym (and-false e)
    both e false true = refl
    both e false false = sym (and-false e)
