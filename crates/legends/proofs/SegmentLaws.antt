-- The segment at the front of some bytes: what its tests say, and how the bytes behind it are cut and judged.
use Prim.Native.Nat.{ℕ, zero, suc, ◌+◌, ◌≤◌, ◌<◌}
use mathlib.Core.Path.{◌≡◌, refl, sym, ap, ◌∙◌}
use mathlib.Core.Bool.{Bool, true, false, cond, not, ◌&&◌, ◌||◌}
use mathlib.Core.Option.{Option}
use mathlib.Core.List.{List, [], ◌∷◌, ◌++◌, map, flatten}
use native.Mathlib.Nat.{le_of_suc-le-suc, not-suc-le-zero}
use native.Mathlib.Omega.{arith}
use lib.ListN.{length, get_or, take, drop, length-take, length-drop}
use lib.Seq.{take-take, take-add, get_or-take, length-take-le}
use lib.Dec.{eqb, leb, ltb}
use borrow.Author.Tests.{leb-true, ltb-true, ltb-false, eqb-false, eq-eqb, lt-ltb, le-ltb, not-false}
use Rattle.seq.specs.Words.{any, empty, when, first_or}
use Rattle.std.specs.Prelude.{Ok, Err}
use Rattle.numbers.specs.Numbers.{Checked}
use Rattle.seq.proofs.Laws.{and_right, or_left, or_right, cond_has, passed}
use Rattle.numbers.specs.declared.Cause.TheVariants.{SegmentEnds, SegmentFields}
use Rattle.numbers.specs.Sizes.{line_width}
use Rattle.numbers.specs.Numbers.{is_sound}
use Rattle.numbers.proofs.Laws.{faulty, sound-is}
use Rattle.legends.specs.Legends.{head_size, segment_length, bad_head, segment_tests, cut, segments, legend_check, stored_segments}

-- What the tests find of the segment at the front of s, and of all segments of s; and the bytes behind the first.
abbrev pub found : List ℕ → Checked
found s = first_or (Ok tt) (segment_tests s)

abbrev pub judged : List ℕ → Checked
judged s = first_or (Ok tt) (flatten (map segment_tests (segments s)))

abbrev pub rest : List ℕ → List ℕ
rest s = drop (segment_length s) s

-- Bytes that begin with a segment without fault: its six bytes say what they may, and its text follows.
pub record SoundFirst (s : List ℕ) : Type 0 where
  pub head : bad_head s ≡ false
  pub size : segment_length s ≤ length s

-- where its tests and those after them find nothing, it is one, and those after them find nothing
pub tested : (s : List ℕ) (ts : List (Option Checked)) → first_or (Ok tt) (segment_tests s ++ ts) ≡ Ok tt → SoundFirst s × (first_or (Ok tt) ts ≡ Ok tt)
tested s ts e =
    let h₁ = passed (ltb (length s) head_size) _ faulty e in
    let h₂ = passed (bad_head s) _ faulty h₁.1 in
    let h₃ = passed (ltb (length s) (segment_length s)) _ faulty h₂.1 in
    (record { head = h₂.0; size = ltb-false (length s) (segment_length s) h₃.0 }, h₃.1)

pub sound-first : (s : List ℕ) → is_sound (found s) ≡ true → SoundFirst s
sound-first s e = (tested s [] (sound-is (found s) e)).0

-- none of its six bytes is 00, and its positions end within a line
none-zero : (k : ℕ) (xs : List ℕ) → any (λ b. eqb b 0) xs ≡ false → k < length xs → 1 ≤ get_or xs k 0
none-zero k [] e h = absurd (not-suc-le-zero h)
none-zero zero (x ∷ xs) e h = omega (arith, eqb-false x 0 (or_left (eqb x 0) (any (λ b. eqb b 0) xs) e))
none-zero (suc k) (x ∷ xs) e h = none-zero k xs (or_right (eqb x 0) (any (λ b. eqb b 0) xs) e) (le_of_suc-le-suc h)

module _ (s : List ℕ) (w : SoundFirst s) where
  abbrev ends : ℕ
  ends = get_or s 4 0 + get_or s 5 0

  pub byte-set : (k : ℕ) → k < head_size → 1 ≤ get_or s k 0
  unfolding bad_head
  byte-set k h =
      let n = length-take-le head_size s (omega (arith, w.size)) in
      rw (← get_or-take head_size s k 0 h)
      (none-zero k (take head_size s) (or_left _ (not (leb 2 ends && leb ends (line_width + 1))) w.head) (omega (arith, n, h)))

  pub ends-in-line : ends ≤ line_width + 1
  unfolding bad_head
  ends-in-line = leb-true ends (line_width + 1) (and_right (leb 2 ends) _ (not-false _ (or_right (any (λ b. eqb b 0) (take head_size s)) _ w.head)))

-- The tests of a segment see no more than the segment.
ltb-take : (k m : ℕ) (s : List ℕ) → k ≤ m → ltb (length (take m s)) k ≡ ltb (length s) k
ltb-take k m s h = go (ltb (length s) k) refl
  where
    go : (t : Bool) → ltb (length s) k ≡ t → ltb (length (take m s)) k ≡ ltb (length s) k
    go true e = rw (e, length-take) (lt-ltb _ k (omega (arith, ltb-true (length s) k e)))
    go false e = rw (e, length-take) (le-ltb _ k (omega (arith, ltb-false (length s) k e)))

pub tests-front : (s : List ℕ) → segment_tests (take (segment_length s) s) ≡ segment_tests s
unfolding bad_head
tests-front s =
    let m = segment_length s in
    let at : (k : ℕ) → k < head_size → get_or (take m s) k 0 ≡ get_or s k 0 = λ k h. get_or-take m s k 0 (omega arith) in
    rw (at 5 (omega arith), at 4 (omega arith), take-take head_size m s (omega arith), ltb-take head_size m s (omega arith), ltb-take m m s (omega arith))

-- Cuts: of nothing, of a segment more; of as many bytes as they take; and the same with more fuel than bytes.
module _ (ends : ℕ → Bool) where
  pub cut-none : (n : ℕ) → cut ends n [] ≡ []
  unfolding cut
  cut-none zero = refl
  cut-none (suc n) = refl

  pub cut-more : (n : ℕ) (s : List ℕ) → 0 < length s → ends (get_or s 0 0) ≡ false
      → cut ends (suc n) s ≡ take (segment_length s) s ∷ cut ends n (rest s)
  unfolding cut
  cut-more n [] h e = absurd (not-suc-le-zero h)
  cut-more n (b ∷ bs) h e = rw e refl

  pub cut-take : (n : ℕ) (s : List ℕ) → (k : ℕ) × (flatten (cut ends n s) ≡ take k s)
  unfolding cut flatten
  cut-take zero s = (0, refl)
  cut-take (suc n) [] = (0, refl)
  cut-take (suc n) (b ∷ bs) =
      let m = segment_length (b ∷ bs) in
      let h = cut-take n (rest (b ∷ bs)) in
      cond_has (λ (ss : List (List ℕ)). (k : ℕ) × (flatten ss ≡ take k (b ∷ bs))) (ends b) (λ t. (0, refl))
      (λ t. (m + h.0, ap (λ (r : List ℕ). take m (b ∷ bs) ++ r) h.1 ∙ sym (take-add m h.0 (b ∷ bs))))

  cut-enough : (n m : ℕ) (s : List ℕ) → length s ≤ n → length s ≤ m → cut ends n s ≡ cut ends m s
  unfolding cut
  cut-enough zero zero s h k = refl
  cut-enough zero (suc m) [] h k = refl
  cut-enough zero (suc m) (b ∷ bs) h k = absurd (omega arith)
  cut-enough (suc n) zero [] h k = refl
  cut-enough (suc n) zero (b ∷ bs) h k = absurd (omega arith)
  cut-enough (suc n) (suc m) [] h k = refl
  cut-enough (suc n) (suc m) (b ∷ bs) h k =
      let l = length-drop (segment_length (b ∷ bs)) (b ∷ bs) in
      ap (λ (r : List (List ℕ)). cond (ends b) [] (take (segment_length (b ∷ bs)) (b ∷ bs) ∷ r))
      (cut-enough n m (rest (b ∷ bs)) (omega (arith, l)) (omega (arith, l)))

  cut-next : (s : List ℕ) → 0 < length s → ends (get_or s 0 0) ≡ false
      → cut ends (length s) s ≡ take (segment_length s) s ∷ cut ends (length (rest s)) (rest s)
  cut-next s h e =
      let l = length-drop (segment_length s) s in
      cut-enough (length s) (suc (length s)) s (omega arith) (omega arith) ∙ cut-more (length s) s h e
      ∙ ap (λ (r : List (List ℕ)). take (segment_length s) s ∷ r) (cut-enough (length s) (length (rest s)) (rest s) (omega (arith, l)) (omega arith))

pub segments-next : (s : List ℕ) → 0 < length s → segments s ≡ take (segment_length s) s ∷ segments (rest s)
unfolding segments
segments-next s h = cut-next (λ b. false) s h refl

pub stored_next : (s : List ℕ) → 0 < length s → eqb (get_or s 0 0) 0 ≡ false → stored_segments s ≡ take (segment_length s) s ∷ stored_segments (rest s)
unfolding stored_segments
stored_next s h e = cut-next (λ b. eqb b 0) s h e

-- stored segments end at 00
pub cut-end : (n : ℕ) (s : List ℕ) → get_or s 0 0 ≡ 0 → cut (λ b. eqb b 0) n s ≡ []
unfolding cut
cut-end zero s e = refl
cut-end (suc n) [] e = refl
cut-end (suc n) (b ∷ bs) e = rw (eq-eqb b 0 e) refl

-- The tests of all segments: those of the first, then those of the others.
abbrev three : Bool → Bool → Bool → List (Option Checked) → Checked
three a b c ts = first_or (Ok tt) (when a (Err SegmentEnds) ∷ when b (Err SegmentFields) ∷ when c (Err SegmentEnds) ∷ ts)

first_three : (a b c : Bool) (ts : List (Option Checked)) → three a b c ts ≡ cond (is_sound (three a b c [])) (first_or (Ok tt) ts) (three a b c [])
unfolding first_or when
first_three true b c ts = refl
first_three false true c ts = refl
first_three false false true ts = refl
first_three false false false ts = refl

judged-next : (s : List ℕ) → 0 < length s → judged s ≡ cond (is_sound (found s)) (judged (rest s)) (found s)
unfolding flatten
judged-next s h =
    let ts = flatten (map segment_tests (segments (rest s))) in
    ap (λ (ss : List (List ℕ)). first_or (Ok tt) (flatten (map segment_tests ss))) (segments-next s h)
    ∙ ap (λ (us : List (Option Checked)). first_or (Ok tt) (us ++ ts)) (tests-front s)
    ∙ first_three (ltb (length s) head_size) (bad_head s) (ltb (length s) (segment_length s)) ts

pub judged-sound : (s : List ℕ) → is_sound (found s) ≡ true → judged s ≡ judged (rest s)
judged-sound s e = judged-next s (omega (arith, (sound-first s e).size)) ∙ rw e

pub judged-faulty : (s : List ℕ) → 0 < length s → is_sound (found s) ≡ false → judged s ≡ found s
judged-faulty s h e = judged-next s h ∙ rw e

pub judged-none : (s : List ℕ) → length s ≡ 0 → judged s ≡ Ok tt
unfolding segments cut flatten first_or
judged-none [] l = refl
judged-none (b ∷ bs) l = absurd (omega arith)

-- A record passes as its segments do, an empty one apart.
pub check-none : (r : List ℕ) → length r ≡ 0 → legend_check r ≡ Err SegmentEnds
unfolding legend_check first_or when
check-none [] l = refl
check-none (b ∷ bs) l = absurd (omega arith)

pub check-some : (r : List ℕ) → 0 < length r → legend_check r ≡ judged r
unfolding legend_check first_or when
check-some [] h = absurd (omega arith)
check-some (b ∷ bs) h = refl

pub empty-or-sound : (r : List ℕ) → (empty r || is_sound (legend_check r)) ≡ is_sound (judged r)
unfolding legend_check segments cut flatten first_or when
empty-or-sound [] = refl
empty-or-sound (b ∷ bs) = refl
