-- A stored overlay sequence: a scan of all its bytes at once, and what it tells with the count and the copies.
use Rattle.std.proofs.Common.{◌≡◌, ℕ, zero, suc, ◌+◌, ◌-◌, ◌%◌, ◌<◌, ◌≤◌, Bool, true, false, cond, not, ◌&&◌, ◌||◌, eqb, ltb, leb, List, [], ◌∷◌, length, get_or, take, drop, sym, refl, ap, ◌∙◌, zero-add, add-one, arith, length-take-le, drop-cons, ltb-false, ltb-true, le-ltb, lt-ltb, eq-eqb, ne_eqb, eqb-true, le-leb, leb-true}
use Rattle.std.specs.Prelude.{Ok, Err}
use mathlib.Core.Bool.{and-false, and_assoc, or-true, not-not}
use native.Mathlib.Nat.{sub-zero}
use borrow.Author.Tests.{lt-leb, not-false}
use Rattle.seq.specs.Words.{any, when, first_or, every, zero_from}
use Rattle.seq.proofs.Laws.{or_left, or_right}
use Rattle.seq.proofs.Loops.{any-not-all}
use Rattle.numbers.specs.declared.Cause.TheVariants.{SequenceCounts}
use Rattle.numbers.specs.Numbers.{is_sound}
use Rattle.copies.specs.Copies.{pair_size, most_copies, pairs_of, copies_of, whole_pairs, bad_pair, sequence_check, copies_in_range}
use Rattle.copies.proofs.CopiesLaws.{pairs-fit, pairs-even}

abbrev is_set : ℕ → Bool
is_set b = not (eqb b 0)

-- The byte at place i of those stored, the first n the sequence: whether it is out of order, and whether one from there on is.
abbrev pub loose_at : ℕ → ℕ → ℕ → Bool
loose_at n i b = cond (ltb i n) (cond (eqb (i % 2) 0) (eqb b 0) (ltb 1 b)) (not (eqb b 0))

unfoldable pub loose : ℕ → ℕ → List ℕ → Bool
loose n i [] = false
loose n i (b ∷ r) = loose_at n i b || loose n (suc i) r

pub loose-more : (n i : ℕ) (l : List ℕ) → i < length l → loose n i (drop i l) ≡ (loose_at n i (get_or l i 0) || loose n (i + 1) (drop (i + 1) l))
unfolding loose
loose-more n i l h = rw (add-one, drop-cons l i 0 h) refl

pub loose_none : (n i : ℕ) → loose n i [] ≡ false
unfolding loose
loose_none n i = refl

-- Of whole pairs: a bad one, or a byte after them that is not 00.
after-loose : (n i : ℕ) (l : List ℕ) → n ≤ i → loose n i l ≡ any is_set l
unfolding loose
after-loose n i [] h = refl
after-loose n i (b ∷ l) h = rw (le-ltb i n h) (ap (λ (t : Bool). is_set b || t) (after-loose n (suc i) l (omega arith)))

loose-parts : (n i : ℕ) (l : List ℕ) → i % 2 ≡ 0 → n % 2 ≡ 0 → n - i ≤ length l
    → loose n i l ≡ (any bad_pair (pairs_of (take (n - i) l)) || any is_set (drop (n - i) l))
unfolding loose pairs_of
loose-parts n i [] p q h = let z : n - i ≡ 0 = omega arith in rw z refl
loose-parts n i (c ∷ []) p q h = let z : n - i ≡ 0 = omega arith in rw z (after-loose n i (c ∷ []) (omega arith))
loose-parts n i (c ∷ m ∷ l) p q h = here (ltb i n) refl (loose-parts n (suc (suc i)) l (omega arith) q (omega arith))
  where
    both : (a b x y : Bool) → (a || (b || (x || y))) ≡ (((a || b) || x) || y)
    both true b x y = refl
    both false true x y = refl
    both false false x y = refl

    here : (t : Bool) → ltb i n ≡ t
        → loose n (suc (suc i)) l ≡ (any bad_pair (pairs_of (take (n - suc (suc i)) l)) || any is_set (drop (n - suc (suc i)) l))
        → loose n i (c ∷ m ∷ l) ≡ (any bad_pair (pairs_of (take (n - i) (c ∷ m ∷ l))) || any is_set (drop (n - i) (c ∷ m ∷ l)))
    here true e later =
        let s : n - i ≡ suc (suc (n - suc (suc i))) = omega (arith, ltb-true i n e) in
        let e' : ltb (suc i) n ≡ true = lt-ltb (suc i) n (omega (arith, ltb-true i n e)) in
        let p' : eqb (suc i % 2) 0 ≡ false = ne_eqb (suc i % 2) 0 (λ z. omega arith) in
        rw (s, e, e', eq-eqb (i % 2) 0 p, p', later) (both (eqb c 0) (ltb 1 m) _ _)
    here false e later = let z : n - i ≡ 0 = omega (arith, ltb-false i n e) in rw z (after-loose n i (c ∷ m ∷ l) (ltb-false i n e))

set_after : (n : ℕ) (l : List ℕ) → any is_set (drop n l) ≡ not (zero_from n l)
set_after n l = sym (not-not _) ∙ ap not (any-not-all (λ b. eqb b 0) (drop n l))

pub loose-is : (n : ℕ) (l : List ℕ) → n % 2 ≡ 0 → n ≤ length l → loose n 0 l ≡ (any bad_pair (pairs_of (take n l)) || not (zero_from n l))
loose-is n l e h = rw (← (set_after n l)) (simp sub-zero at (loose-parts n 0 l refl e (rw sub-zero h)))

-- With 00 after them, all bytes have the copies of the first n.
no_copies : (l : List ℕ) → any is_set l ≡ false → copies_of l ≡ 0
unfolding copies_of pairs_of
no_copies [] e = refl
no_copies (c ∷ []) e = refl
no_copies (c ∷ m ∷ l) e =
    let z : c ≡ 0 = eqb-true c 0 (not-false _ (or_left _ _ e)) in
    rw (z, zero-add) (no_copies l (or_right (is_set m) _ (or_right (is_set c) _ e)))

copies-front : (n : ℕ) (l : List ℕ) → n % 2 ≡ 0 → any is_set (drop n l) ≡ false → copies_of l ≡ copies_of (take n l)
unfolding copies_of pairs_of
copies-front zero l h e = no_copies l e
copies-front (suc zero) l h e = absurd (omega arith)
copies-front (suc (suc n)) [] h e = refl
copies-front (suc (suc n)) (c ∷ []) h e = refl
copies-front (suc (suc n)) (c ∷ m ∷ l) h e = ap (λ (k : ℕ). c + k) (copies-front n l (omega arith) e)

-- A stored sequence and reference, where the count is no number of whole pairs and where it is.
module _ (l : List ℕ) (n r : ℕ) (h : length l ≡ pair_size) where
  abbrev ok : Bool
  ok = copies_in_range (record { pairs = l; count = n; reference = r }) && is_sound (sequence_check (take n l))

  pub ok-without-pairs : whole_pairs n ≡ false → ok ≡ false
  unfolding copies_in_range every sequence_check first_or when
  ok-without-pairs w = go (leb n pair_size) refl
    where
      go : (t : Bool) → leb n pair_size ≡ t → ok ≡ false
      go true e = simp (length-take-le n l (omega (arith, leb-true n pair_size e)), w, and-false)
      go false e = rw e refl

  pub ok-with-pairs : whole_pairs n ≡ true → ok ≡ (leb 1 r && (not (any bad_pair (pairs_of (take n l)) || not (zero_from n l)) && leb (copies_of l) most_copies))
  unfolding copies_in_range every sequence_check first_or when
  ok-with-pairs w =
      rw (le-leb n pair_size (pairs-fit n w), length-take-le n l (omega (arith, pairs-fit n w)), w) (go (zero_from n l) refl)
    where
      few : (c : ℕ) (t : Bool) → ltb most_copies c ≡ t → leb c most_copies ≡ not t
      few c true e = lt-leb c most_copies (ltb-true most_copies c e)
      few c false e = le-leb c most_copies (ltb-false most_copies c e)

      judged : (t b o : Bool)
          → ((t && true) && is_sound (first_or (Ok tt) (when (b || o) (Err SequenceCounts) ∷ []))) ≡ (t && (not (b || false) && not o))
      judged false b o = refl
      judged true true o = refl
      judged true false true = refl
      judged true false false = refl

      bad : Bool
      bad = any bad_pair (pairs_of (take n l))

      over : Bool
      over = ltb most_copies (copies_of (take n l))

      go : (z : Bool) → zero_from n l ≡ z
          → ((z && (leb 1 r && true)) && is_sound (first_or (Ok tt) (when (bad || over) (Err SequenceCounts) ∷ [])))
          ≡ (leb 1 r && (not (bad || not z) && leb (copies_of l) most_copies))
      go false e = simp (or-true, and-false)
      go true e =
          rw (copies-front n l (pairs-even n w) (set_after n l ∙ ap not e), few (copies_of (take n l)) over refl) (judged (leb 1 r) bad over)

  -- What is looked at: whether the count is one of whole pairs, and where it is, whether a byte is loose.
  pub ok-tests : (whole loose : Bool) → whole ≡ whole_pairs n
      → (n ≤ pair_size → n % 2 ≡ 0 → loose ≡ (any bad_pair (pairs_of (take n l)) || not (zero_from n l)))
      → (whole && leb 1 r && not loose && leb (copies_of l) most_copies) ≡ ok
  ok-tests false loose e s = sym (ok-without-pairs (sym e))
  ok-tests true loose e s =
      let w = sym e in
      rw (s (pairs-fit n w) (pairs-even n w), and_assoc (leb 1 r)) (sym (ok-with-pairs w))
