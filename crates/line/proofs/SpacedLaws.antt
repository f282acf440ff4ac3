-- Codes in every n bytes: sizes, elements and parts, by which a loop over every n-th byte is a loop over codes; and the two kinds that there are.
use Rattle.std.proofs.Common.{◌≡◌, ℕ, zero, suc, ◌+◌, ◌*◌, ◌-◌, ◌/◌, ◌<◌, ◌≤◌, List, [], ◌∷◌, ◌++◌, length, get_or, take, drop, set, sym, refl, ap, ◌∙◌, arith}
use Rattle.std.proofs.Common.{length-append, append_assoc, length-drop, length-take-le, take_all, drop_of_length-le}
use Rattle.std.proofs.Math.Nat.{mul-suc, mul-zero, mul-sub, mul-le-mul_left, mul-div_cancel_left}
use Rattle.std.proofs.Math.Seq.{take-append-add, drop-append-add}
use Rattle.std.proofs.lemmas.List.{get_or-append-add, set-append_right}
use Rattle.std.proofs.Common.{◌||◌, ltb, take_at, drop_at, drop-drop, take-add, bit_or}
use mathlib.Core.List.{map-append}
use lib.ListN.{length-replicate, length-map}
use Rattle.seq.specs.Words.{any, zeros}
use Rattle.seq.proofs.Loops.{filled, filled_more, reads_old, any_append}
use Rattle.line.specs.Cells.{stored}
use Rattle.line.specs.Codes.{codes, spaced}
use Rattle.line.specs.Straight.{plain}
use Rattle.line.proofs.MarkLaws.{or-reaches}

-- by themselves, and as cells without a mark
pub one-spaced : (cs : List ℕ) → spaced 1 cs ≡ cs
one-spaced [] = refl
one-spaced (c ∷ cs) = ap (λ (l : List ℕ). c ∷ l) (one-spaced cs)

pub two-spaced : (cs : List ℕ) → spaced 2 cs ≡ plain cs
unfolding stored
two-spaced [] = refl
two-spaced (c ∷ cs) = ap (λ (l : List ℕ). c ∷ 0 ∷ l) (two-spaced cs)

module _ (n : ℕ) (some : 1 ≤ n) where
  -- one code with its bytes
  abbrev head : ℕ → List ℕ
  head c = c ∷ zeros (n - 1)

  next : (c k : ℕ) → n * suc k ≡ length (head c) + n * k
  next c k = simp (length-replicate, mul-suc) (omega arith)

  pub length-spaced : (cs : List ℕ) → length (spaced n cs) ≡ n * length cs
  length-spaced [] = sym (mul-zero n)
  length-spaced (c ∷ cs) =
      length-append (head c) (spaced n cs) ∙ ap (λ (m : ℕ). length (head c) + m) (length-spaced cs) ∙ sym (next c (length cs))

  pub count-spaced : (cs : List ℕ) {out : List ℕ} → out ≡ spaced n cs → length out / n ≡ length cs
  count-spaced cs e = ap (λ (l : List ℕ). length l / n) e ∙ ap (λ (m : ℕ). m / n) (length-spaced cs) ∙ mul-div_cancel_left (length cs) some

  spaced-code : (i : ℕ) (cs : List ℕ) → get_or (spaced n cs) (n * i) 0 ≡ get_or cs i 0
  spaced-code i [] = refl
  spaced-code zero (c ∷ cs) = rw (mul-zero n) refl
  spaced-code (suc i) (c ∷ cs) =
      ap (λ (m : ℕ). get_or (head c ++ spaced n cs) m 0) (next c i) ∙ get_or-append-add (head c) (spaced n cs) (n * i) 0 ∙ spaced-code i cs

  set-past : (xs ys : List ℕ) (k v : ℕ) → set (xs ++ ys) (length xs + k) v ≡ xs ++ set ys k v
  set-past xs ys k v =
      let e : length xs + k - length xs ≡ k = omega arith in
      set-append_right xs ys (length xs) (length xs + k) v refl (omega arith) ∙ ap (λ (m : ℕ). xs ++ set ys m v) e

  pub spaced-set : (i v : ℕ) (cs : List ℕ) → set (spaced n cs) (n * i) v ≡ spaced n (set cs i v)
  spaced-set i v [] = refl
  spaced-set zero v (c ∷ cs) = rw (mul-zero n) refl
  spaced-set (suc i) v (c ∷ cs) =
      ap (λ (m : ℕ). set (head c ++ spaced n cs) m v) (next c i) ∙ set-past (head c) (spaced n cs) (n * i) v
      ∙ ap (λ (l : List ℕ). head c ++ l) (spaced-set i v cs)

  pub spaced-take : (k : ℕ) (cs : List ℕ) → take (n * k) (spaced n cs) ≡ spaced n (take k cs)
  spaced-take zero cs = rw (mul-zero n) refl
  spaced-take (suc k) [] = take_all (n * suc k) [] (omega arith)
  spaced-take (suc k) (c ∷ cs) =
      ap (λ (m : ℕ). take m (head c ++ spaced n cs)) (next c k) ∙ take-append-add (head c) (spaced n cs) (n * k)
      ∙ ap (λ (l : List ℕ). head c ++ l) (spaced-take k cs)

  pub spaced-drop : (k : ℕ) (cs : List ℕ) → drop (n * k) (spaced n cs) ≡ spaced n (drop k cs)
  spaced-drop zero cs = rw (mul-zero n) refl
  spaced-drop (suc k) [] = drop_of_length-le [] {i = n * suc k} (omega arith)
  spaced-drop (suc k) (c ∷ cs) =
      ap (λ (m : ℕ). drop m (head c ++ spaced n cs)) (next c k) ∙ drop-append-add (head c) (spaced n cs) (n * k) ∙ spaced-drop k cs

  pub spaced-append : (xs ys : List ℕ) → spaced n (xs ++ ys) ≡ spaced n xs ++ spaced n ys
  spaced-append [] ys = refl
  spaced-append (x ∷ xs) ys = ap (λ (l : List ℕ). head x ++ l) (spaced-append xs ys) ∙ sym (append_assoc (head x) (spaced n xs) (spaced n ys))

  -- The part from code a to code e is lent, and what comes back is put in its place.
  module _ (a e : ℕ) (cs out : List ℕ) (whole : out ≡ spaced n cs) where
    size : n * e - n * a ≡ n * (e - a)
    size = sym (mul-sub n e a)

    rest : drop (n * a) out ≡ spaced n (drop a cs)
    rest = ap (drop (n * a)) whole ∙ spaced-drop a cs

    pub spaced-lent : take (n * e - n * a) (drop (n * a) out) ≡ spaced n (take (e - a) (drop a cs))
    spaced-lent = (λ i. take (size i) (rest i)) ∙ spaced-take (e - a) (drop a cs)

    pub spaced-put : (ys new : List ℕ) → new ≡ spaced n ys
        → take (n * a) out ++ (new ++ drop (n * e - n * a) (drop (n * a) out)) ≡ spaced n (take a cs ++ (ys ++ drop (e - a) (drop a cs)))
    spaced-put ys new back =
        let before = ap (take (n * a)) whole ∙ spaced-take a cs in
        let behind = (λ i. drop (size i) (rest i)) ∙ spaced-drop (e - a) (drop a cs) in
        (λ i. before i ++ (back i ++ behind i)) ∙ ap (λ (l : List ℕ). spaced n (take a cs) ++ l) (sym (spaced-append ys (drop (e - a) (drop a cs))))
        ∙ sym (spaced-append (take a cs) (ys ++ drop (e - a) (drop a cs)))

  pub part-long : (a e : ℕ) (out xs : List ℕ) → length out ≡ n * length xs → e ≤ length xs
      → length (take (n * e - n * a) (drop (n * a) out)) ≡ n * length (take (e - a) (drop a xs))
  part-long a e out xs long h =
      length-take-le (n * e - n * a) (drop (n * a) out) (omega (arith, long, mul-le-mul_left n h, length-drop (n * a) out)) ∙ sym (mul-sub n e a)
      ∙ ap (λ (m : ℕ). n * m) (sym (length-take-le (e - a) (drop a xs) (omega (arith, h, length-drop a xs))))

  -- A loop that writes codes: what no turn has written yet is still the old code; and a turn that writes code i.
  pub spaced-old : (i : ℕ) (goal cs out : List ℕ) → out ≡ spaced n (filled i goal cs) → get_or out (n * i) 0 ≡ get_or cs i 0
  spaced-old i goal cs out e =
      ap (λ (l : List ℕ). get_or l (n * i) 0) e ∙ spaced-code i (filled i goal cs) ∙ reads_old i i goal cs (filled i goal cs) (omega arith) refl

  pub spaced_more : (i v : ℕ) (goal cs out : List ℕ) → out ≡ spaced n (filled i goal cs) → i < length goal → v ≡ get_or goal i 0
      → set out (n * i) v ≡ spaced n (filled (i + 1) goal cs)
  spaced_more i v goal cs out e h w =
      ap (λ (l : List ℕ). set l (n * i) v) e ∙ spaced-set i v (filled i goal cs) ∙ ap (spaced n) (filled_more i v goal cs _ refl h w)

-- The codes of the first n bytes, before what else stands there; and whether one of them is FF.
abbrev pub Laid : ℕ → List ℕ → List ℕ → ℕ → List ℕ → List ℕ → Type 0
Laid s t r n cells₀ cells = (cs : List ℕ) → length cs ≡ length r → cells₀ ≡ spaced s cs → cells ≡ spaced s (codes t (take n r) ++ drop n cs)

abbrev pub Seen : List ℕ → List ℕ → ℕ → ℕ → Type 0
Seen t r n seen = ltb 0xFF seen ≡ any (ltb 0xFE) (codes t (take n r))

-- A turn looks up the bytes from n to e.
module _ (t r : List ℕ) (n e : ℕ) (up : n ≤ e) (room : e ≤ length r) where
  reach : n + (e - n) ≡ e
  reach = omega arith

  split : codes t (take e r) ≡ codes t (take n r) ++ codes t (take (e - n) (drop n r))
  split = ap (λ (k : ℕ). codes t (take k r)) (sym reach) ∙ ap (codes t) (take-add n (e - n) r) ∙ map-append (λ b. get_or t b 0) (take n r) _

  pub seen-turn : (seen now : ℕ) → Seen t r n seen → ltb 0xFF now ≡ any (ltb 0xFE) (codes t (take (e - n) (drop n r))) → Seen t r e (bit_or seen now)
  seen-turn seen now h k =
      or-reaches 8 0xFF seen now refl ∙ (λ i. h i || k i) ∙ sym (any_append (ltb 0xFE) (codes t (take n r)) _) ∙ ap (any (ltb 0xFE)) (sym split)

  pub laid-turn : (s : ℕ) → 1 ≤ s → (cells₀ cells new : List ℕ) → Laid s t r n cells₀ cells
      → ((cs : List ℕ) → length cs ≡ length (take (e - n) (drop n r)) → take (s * e - s * n) (drop (s * n) cells) ≡ spaced s cs
      → new ≡ spaced s (codes t (take (e - n) (drop n r))))
      → Laid s t r e cells₀ (take (s * n) cells ++ (new ++ drop (s * e - s * n) (drop (s * n) cells)))
  laid-turn s some cells₀ cells new laid turn cs l p =
      let front = codes t (take n r) in
      let more = codes t (take (e - n) (drop n r)) in
      let all = front ++ drop n cs in
      let long : length front ≡ n = length-map (take n r) _ ∙ length-take-le n r (omega arith) in
      let rest : drop n all ≡ drop n cs = drop_at front (drop n cs) n long in
      let same : length (take (e - n) (drop n all)) ≡ length (take (e - n) (drop n r)) =
      ap (λ (l : List ℕ). length (take (e - n) l)) rest
      ∙ length-take-le (e - n) (drop n cs) (omega (arith, length-drop n cs)) ∙ sym (length-take-le (e - n) (drop n r) (omega (arith, length-drop n r))) in
      let whole = laid cs l p in
      let back = turn (take (e - n) (drop n all)) same (spaced-lent s some n e all cells whole) in
      let behind : drop (e - n) (drop n all) ≡ drop e cs = ap (drop (e - n)) rest ∙ drop-drop (e - n) n cs ∙ ap (λ (k : ℕ). drop k cs) reach in
      spaced-put s some n e all cells whole more new back
      ∙ ap (spaced s) ((λ i. take_at front (drop n cs) n long i ++ (more ++ behind i)) ∙ sym (append_assoc front more (drop e cs))
      ∙ ap (λ (l : List ℕ). l ++ drop e cs) (sym split))
