-- A list with ys in the place of what stood from `at` on: before, in and after it.
use Rattle.std.proofs.Common.{◌≡◌, ℕ, ◌+◌, ◌-◌, ◌<◌, ◌≤◌, List, ◌++◌, length, get_or, take, drop, ap, ◌∙◌, arith, length-append, length-drop, length-take, length-take-le, get_or-drop, get_or-take, get_or-append-add}
use lib.ListN.{get_or-append}

abbrev pub put : {A : Type 0} → ℕ → List A → List A → List A
put at ys out = take at out ++ (ys ++ drop (length ys) (drop at out))

module _ {A : Type 0} (d : A) (at : ℕ) (ys out : List A) (room : at + length ys ≤ length out) where
  front : length (take at out) ≡ at
  front = length-take-le at out (omega (arith, room))

  pub length-put : length (put at ys out) ≡ length out
  length-put = simp (length-append, length-take, length-drop) (omega (arith, room))

  pub put-before : (k : ℕ) → k < at → get_or (put at ys out) k d ≡ get_or out k d
  put-before k h = get_or-append (take at out) _ d k (omega (arith, front, h)) ∙ get_or-take at out k d h

  put_rest : (k : ℕ) → at ≤ k → get_or (put at ys out) k d ≡ get_or (ys ++ drop (length ys) (drop at out)) (k - at) d
  put_rest k h =
      let e : k ≡ length (take at out) + (k - at) = omega (arith, front, h) in
      ap (λ (j : ℕ). get_or (put at ys out) j d) e ∙ get_or-append-add (take at out) _ (k - at) d

  pub put_in : (k : ℕ) → at ≤ k → k < at + length ys → get_or (put at ys out) k d ≡ get_or ys (k - at) d
  put_in k h l = put_rest k h ∙ get_or-append ys _ d (k - at) (omega arith)

  pub put-after : (k : ℕ) → at + length ys ≤ k → get_or (put at ys out) k d ≡ get_or out k d
  put-after k h =
      let e : k - at ≡ length ys + (k - at - length ys) = omega arith in
      let j : at + (length ys + (k - at - length ys)) ≡ k = omega arith in
      put_rest k (omega arith) ∙ ap (λ (i : ℕ). get_or (ys ++ drop (length ys) (drop at out)) i d) e ∙ get_or-append-add ys _ (k - at - length ys) d
      ∙ get_or-drop (length ys) (drop at out) (k - at - length ys) d ∙ get_or-drop at out (length ys + (k - at - length ys)) d
      ∙ ap (λ (i : ℕ). get_or out i d) j
