-- How a loop walks the lines that a space enters and a skip looks at: start, step and end.
use Prim.Native.Nat.{ℕ, zero, suc, ◌+◌, ◌-◌, ◌≤◌, ◌<◌}
use mathlib.Core.Path.{◌≡◌, refl, sym, ap, ◌∙◌}
use mathlib.Core.Bool.{Bool, true, false, cond, ◌||◌, or-false, or_assoc}
use mathlib.Core.List.{List, [], ◌∷◌, ◌++◌, map}
use native.Mathlib.Nat.{sub-zero, zero-add, add-zero, suc-add, add-suc}
use native.Mathlib.Numerals.{add-one}
use native.Mathlib.Omega.{arith}
use lib.ListN.{length, get_or, drop, length-map, get_or-append, drop_of_length-le}
use lib.Seq.{drop-cons, get_or-append-add}
use lib.Dec.{eqb, ltb}
use Rattle.std.specs.Int.{from_bool}
use borrow.Author.Tests.{lt-ltb, le-ltb, ltb-true, ltb-false, eq-eqb, ne_eqb}
use Rattle.seq.specs.Words.{any, last_or, from}
use Rattle.seq.proofs.Laws.{length_from, get_or-from}
use Rattle.seq.proofs.Loops.{get_or-map}
use Rattle.movement.specs.declared.Moved.{Moved}
use Rattle.form.specs.Form.{channel_at}
use Rattle.movement.specs.Movement.{Spot, spot, entered, round, up_to_first, has, entering, spaced, skipped, moved, still}
use Rattle.movement.proofs.MovementLaws.{round-length, first_some, skipped-most}

-- A movement that went on as m after t.
abbrev pub further : Moved → Moved → Moved
further t m =
    let nine = t.nine || m.nine in
    let twelve = t.twelve || m.twelve in
    record { lines = t.lines + m.lines; pages = t.pages + m.pages; line = m.line; nine = nine; twelve = twelve; missed = t.missed || m.missed }

-- What is left of a space of n lines: all of it at first.
pub space-start : (ls : List ℕ) (c n : ℕ) → spaced ls c n ≡ further (still c) (spaced ls c (n - 0))
unfolding still spaced
space-start ls c n = simp (sub-zero, zero-add)

-- After so many lines, which are those of t.
module _ (ls : List ℕ) (n : ℕ) (t : Moved) where
  abbrev left : Moved
  left = further t (spaced ls t.line (n - t.lines))

  -- the step to the line after t's
  pub space-in : t.lines < n → t.line < length ls → left ≡ further (entering ls t (t.line + 1)) (spaced ls (t.line + 1) (n - (t.lines + 1)))
  unfolding spaced entered
  space-in h i =
      let e : n - t.lines ≡ suc (n - (t.lines + 1)) = omega arith in
      simp (e, lt-ltb t.line (length ls) i, or_assoc, add-one, add-suc, suc-add)

  -- the step past P
  pub space-past : t.lines < n → t.line ≡ length ls → t.pages ≡ 0
      → (let m = entering ls t 1 in left ≡ record { lines = m.lines; pages = 1; line = m.line; nine = m.nine; twelve = m.twelve; missed = m.missed })
  unfolding spaced entered
  space-past h i p =
      let e : n - t.lines ≡ suc (n - (t.lines + 1)) = omega arith in
      simp (e, le-ltb t.line (length ls) (omega arith), or-false, p)

  -- none left
  pub space-none : n ≤ t.lines → left ≡ t
  unfolding spaced entered
  space-none h =
      let e : n - t.lines ≡ 0 = omega arith in
      simp (e, or-false) (simp add-zero)

-- The line that is n lines on from c, n at most P: on this form, or past P on the next.
abbrev spot_after : ℕ → ℕ → ℕ → Spot
spot_after P c n = let over = ltb (P - c) n in spot (from_bool over) (cond over (n - (P - c)) (c + n))

get_or-spots : (form a n k : ℕ) (d : Spot) → k < n → get_or (map (spot form) (from a n)) k d ≡ spot form (a + k)
get_or-spots form a n k d h = get_or-map (spot form) 0 d k (from a n) (rw length_from h) ∙ ap (spot form) (get_or-from a k n h)

length-spots : (form a n : ℕ) → length (map (spot form) (from a n)) ≡ n
length-spots form a n = simp (length-map, length_from)

-- Element n - 1 of a round is n lines on.
module _ (P c n : ℕ) (d : Spot) (on : c ≤ P) (some : 1 ≤ n) (few : n ≤ P) where
  abbrev here : List Spot
  here = map (spot 0) (from (c + 1) (P - c))

  abbrev next : List Spot
  next = map (spot 1) (from 1 c)

  at-by : (over : Bool) → ltb (P - c) n ≡ over → get_or (here ++ next) (n - 1) d ≡ spot (from_bool over) (cond over (n - (P - c)) (c + n))
  at-by true e =
      let l = ltb-true (P - c) n e in
      let k = n - 1 - (P - c) in
      let q : n - 1 ≡ length here + k = omega (arith, length-spots 0 (c + 1) (P - c), l) in
      ap (λ (j : ℕ). get_or (here ++ next) j d) q ∙ get_or-append-add here next k d
      ∙ get_or-spots 1 1 c k d (omega (arith, l)) ∙ ap (spot 1) (omega (arith, l))
  at-by false e =
      let l = ltb-false (P - c) n e in
      get_or-append here next d (n - 1) (omega (arith, length-spots 0 (c + 1) (P - c), l))
      ∙ get_or-spots 0 (c + 1) (P - c) (n - 1) d (omega (arith, l)) ∙ ap (spot 0) (omega arith)

  round-at : get_or (round P c) (n - 1) d ≡ spot_after P c n
  unfolding round
  round-at = at-by (ltb (P - c) n) refl

last_step : (f : Spot → Bool) (s e : Spot) (ss : List Spot) (k : ℕ) (t : Bool) → f s ≡ t → suc (length (cond t [] (up_to_first f ss))) ≡ suc k
    → ((j : ℕ) → length (up_to_first f ss) ≡ suc j → (last_or s (up_to_first f ss) ≡ get_or ss j e) × (any f ss ≡ f (get_or ss j e)))
    → (last_or s (cond t [] (up_to_first f ss)) ≡ get_or (s ∷ ss) k e) × ((t || any f ss) ≡ f (get_or (s ∷ ss) k e))
unfolding up_to_first
last_step f s e ss zero true a l ih = (refl, sym a)
last_step f s e ss (suc k) true a l ih = absurd (omega arith)
last_step f s e [] zero false a l ih = (refl, sym a)
last_step f s e (t ∷ ss) zero false a l ih = absurd (omega arith)
last_step f s e ss (suc k) false a l ih = ih k (omega arith)

-- The last line looked at is element k, and tells whether one matched.
last-looked : (f : Spot → Bool) (w : List Spot) (d e : Spot) (k : ℕ) → length (up_to_first f w) ≡ suc k
    → (last_or d (up_to_first f w) ≡ get_or w k e) × (any f w ≡ f (get_or w k e))
unfolding up_to_first
last-looked f [] d e k h = absurd (omega arith)
last-looked f (s ∷ ss) d e k h = last_step f s e ss k (f s) refl h (λ j. last-looked f ss s e j)

module _ (ls : List ℕ) (c channel : ℕ) where
  abbrev test : Spot → Bool
  test = has ls channel

  abbrev ahead : List Spot
  ahead = round (length ls) c

  -- The lines that a search still looks at after k of them.
  abbrev pub looks : ℕ → ℕ
  looks k = length (up_to_first test (drop k ahead))

  module _ (on : c ≤ length ls) where
    -- the line `count` lines on, `at`, is element count - 1 of those ahead
    module _ (count at : ℕ) (some : 1 ≤ count) (few : count ≤ length ls) (e : at ≡ (spot_after (length ls) c count).line) where
      at-is : get_or ahead (count - 1) (spot 0 c) ≡ spot_after (length ls) c count
      at-is = round-at (length ls) c count (spot 0 c) on some few

      has-at : test (get_or ahead (count - 1) (spot 0 c)) ≡ eqb (channel_at ls at) channel
      has-at = ap test at-is ∙ ap (λ (l : ℕ). eqb (channel_at ls l) channel) (sym e)

      some-ahead : count - 1 < length ahead
      some-ahead = omega (arith, round-length (length ls) c on)

      pub search-hit : channel_at ls at ≡ channel → looks (count - 1) ≡ 1
      unfolding up_to_first
      search-hit q = rw (drop-cons ahead (count - 1) (spot 0 c) some-ahead) (simp (has-at ∙ eq-eqb (channel_at ls at) channel q))

      pub search-miss : (channel_at ls at ≡ channel → ⊥) → looks (count - 1) ≡ 1 + looks count
      unfolding up_to_first
      search-miss q =
          let next : suc (count - 1) ≡ count = omega arith in
          let e = ap looks next in
          rw (drop-cons ahead (count - 1) (spot 0 c) some-ahead) (simp (has-at ∙ ne_eqb (channel_at ls at) channel q) (omega arith))

    pub search-none : (k : ℕ) → length ls ≤ k → looks k ≡ 0
    unfolding up_to_first
    search-none k h = rw (drop_of_length-le ahead {i = k} (omega (arith, round-length (length ls) c on))) refl

    -- A skip looks at `count` lines.
    module _ (some : 1 ≤ length ls) (count : ℕ) (n : count ≡ length (up_to_first test ahead)) where
      pub looked-some : 1 ≤ count
      looked-some = rw n (first_some test ahead (rw (round-length (length ls) c on) some))

      pub looked-most : count ≤ length ls
      unfolding moved skipped
      looked-most = rw n (skipped-most ls c on some channel)

      -- The last of them is `at`.
      module _ (at : ℕ) (e : at ≡ (spot_after (length ls) c count).line) where
        at_last : (last_or (spot 0 c) (up_to_first test ahead) ≡ get_or ahead (count - 1) (spot 0 c)) × (any test ahead ≡ test (get_or ahead (count - 1) (spot 0 c)))
        at_last = last-looked test ahead (spot 0 c) (spot 0 c) (count - 1) (sym n ∙ omega (arith, looked-some))

        last-is : last_or (spot 0 c) (up_to_first test ahead) ≡ spot_after (length ls) c count
        last-is = at_last.0 ∙ at-is count at looked-some looked-most e

        found-is : any test ahead ≡ eqb (channel_at ls at) channel
        found-is = at_last.1 ∙ has-at count at looked-some looked-most e

        pub skip-hit : channel_at ls at ≡ channel
            → record { lines = count; pages = from_bool (ltb (length ls - c) count); line = at; nine = false; twelve = false; missed = false } ≡ skipped ls c channel
        unfolding skipped
        skip-hit q = simp (found-is ∙ eq-eqb (channel_at ls at) channel q, last-is, n, e)

        pub skip-missed : (channel_at ls at ≡ channel → ⊥)
            → record { lines = count; pages = 1; line = 1; nine = false; twelve = false; missed = true } ≡ skipped ls c channel
        unfolding skipped
        skip-missed q = simp (found-is ∙ ne_eqb (channel_at ls at) channel q, n)
