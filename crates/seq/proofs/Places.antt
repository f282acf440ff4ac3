-- The places of the elements that pass a test: as a loop finds them, how many there are, and that all are places of the list.
use Rattle.std.proofs.Common.{◌≡◌, ℕ, zero, suc, ◌+◌, ◌<◌, ◌≤◌, Bool, true, false, cond, ◌&&◌, eqb, leb, List, [], ◌∷◌, ◌++◌, map, length, get_or, take, sym, refl, ap, ◌∙◌, le_of_suc-le-suc, not-suc-le-zero, add-zero, add-one, arith, length-append, take_all, ne_eqb, le-leb}
use Rattle.seq.specs.Words.{any, all, places_from, bit}
use Rattle.seq.proofs.Laws.{and_both, or_left, or_right, cond_has}

module _ {A : Type 0} (f : A → Bool) where
  -- the next element's place comes after those of the elements before it
  cond-append : (t : Bool) (n : ℕ) (xs ys : List ℕ) → cond t (n ∷ xs) xs ++ ys ≡ cond t (n ∷ (xs ++ ys)) (xs ++ ys)
  cond-append true n xs ys = refl
  cond-append false n xs ys = refl

  places-suc : (d : A) (n k : ℕ) (xs : List A) → k < length xs
      → places_from f n (take k xs) ++ cond (f (get_or xs k d)) ((n + k) ∷ []) [] ≡ places_from f n (take (suc k) xs)
  places-suc d n k [] h = absurd (not-suc-le-zero h)
  places-suc d n zero (x ∷ xs) h = rw (add-zero n) refl
  places-suc d n (suc k) (x ∷ xs) h =
      let next = places-suc d (suc n) k xs (le_of_suc-le-suc h) in
      let at : n + suc k ≡ suc n + k = omega arith in
      rw at (cond-append (f x) n _ _ ∙ ap (λ (l : List ℕ). cond (f x) (n ∷ l) l) next)

  places-more : (d : A) (n k : ℕ) (xs : List A) → k < length xs
      → places_from f n (take k xs) ++ cond (f (get_or xs k d)) ((n + k) ∷ []) [] ≡ places_from f n (take (k + 1) xs)
  places-more d n k xs h = rw add-one (places-suc d n k xs h)

  length-cond : (t : Bool) (n : ℕ) → length (cond t (n ∷ []) []) ≡ bit t 1
  length-cond true n = refl
  length-cond false n = refl

  pub count-more : (d : A) (n k : ℕ) (xs : List A) → k < length xs
      → length (places_from f n (take k xs)) + bit (f (get_or xs k d)) 1 ≡ length (places_from f n (take (k + 1) xs))
  count-more d n k xs h =
      ap (λ (m : ℕ). length (places_from f n (take k xs)) + m) (sym (length-cond (f (get_or xs k d)) (n + k)))
      ∙ sym (length-append (places_from f n (take k xs)) _) ∙ ap length (places-more d n k xs h)

  -- the first of them: the next element's place, where it passes and none came before it
  first-after : (t : Bool) (m : ℕ) (ps : List ℕ) → cond (t && eqb (length ps) 0) m (get_or ps 0 0) ≡ get_or (ps ++ cond t (m ∷ []) []) 0 0
  first-after true m [] = refl
  first-after false m [] = refl
  first-after true m (p ∷ ps) = rw (ne_eqb (suc (length ps)) 0 (λ z. omega (arith, z))) refl
  first-after false m (p ∷ ps) = refl

  pub first_more : (d : A) (n k : ℕ) (xs : List A) → k < length xs
      → cond (f (get_or xs k d) && eqb (length (places_from f n (take k xs))) 0) (n + k) (get_or (places_from f n (take k xs)) 0 0)
      ≡ get_or (places_from f n (take (k + 1) xs)) 0 0
  first_more d n k xs h =
      first-after (f (get_or xs k d)) (n + k) (places_from f n (take k xs)) ∙ ap (λ (l : List ℕ). get_or l 0 0) (places-more d n k xs h)

  pub places-all : (n k : ℕ) (xs : List A) → length xs ≤ k → places_from f n (take k xs) ≡ places_from f n xs
  places-all n k xs h = ap (places_from f n) (take_all k xs h)

  -- where none passes there is no place
  pub places-none : (n : ℕ) (xs : List A) → any f xs ≡ false → places_from f n xs ≡ []
  places-none n [] e = refl
  places-none n (x ∷ xs) e = rw (or_left (f x) (any f xs) e) (places-none (suc n) xs (or_right (f x) (any f xs) e))

  few-step : (t : Bool) (n m : ℕ) (xs : List ℕ) → length xs ≤ m → length (cond t (n ∷ xs) xs) ≤ suc m
  few-step true n m xs h = omega (arith, h)
  few-step false n m xs h = omega (arith, h)

  pub places-few : (n : ℕ) (xs : List A) → length (places_from f n xs) ≤ length xs
  places-few n [] = omega arith
  places-few n (x ∷ xs) = few-step (f x) n (length xs) _ (places-few (suc n) xs)

  -- all are between 1 and m, if the list has no more elements
  pub places-within : (m n : ℕ) (xs : List A) → 1 ≤ n → n + length xs ≤ suc m → all (λ k. leb 1 k && leb k m) (places_from f n xs) ≡ true
  places-within m n [] h e = refl
  places-within m n (x ∷ xs) h e =
      let after = places-within m (suc n) xs (omega (arith, h)) (omega (arith, e)) in
      let here : (leb 1 n && leb n m) ≡ true = and_both (le-leb 1 n h) (le-leb n m (omega (arith, e))) in
      cond_has (λ (l : List ℕ). all (λ k. leb 1 k && leb k m) l ≡ true) (f x) (λ t. and_both here after) (λ t. after)

pub places-map : {A B : Type 0} (f : B → Bool) (g : A → B) (n : ℕ) (xs : List A) → places_from f n (map g xs) ≡ places_from (λ x. f (g x)) n xs
places-map f g n [] = refl
places-map f g n (x ∷ xs) = ap (λ (l : List ℕ). cond (f (g x)) (n ∷ l) l) (places-map f g (suc n) xs)
