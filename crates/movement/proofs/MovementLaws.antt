-- Where a movement leads, how many lines it has, and that it completes at most one page.
use Prim.Native.Nat.{ℕ, zero, suc, ◌+◌, ◌-◌, ◌≤◌, ◌<◌}
use mathlib.Core.Path.{◌≡◌, refl, ap, ◌∙◌}
use mathlib.Core.Bool.{Bool, true, false, cond, not}
use mathlib.Core.List.{List, [], ◌∷◌, ◌++◌, map}
use native.Mathlib.Omega.{arith}
use lib.ListN.{length, length-append, length-map}
use lib.Dec.{ltb, lit≤}
use borrow.Author.Tests.{ltb-true, not-true}
use Rattle.seq.specs.Words.{any, last_or, from, zeros}
use Rattle.seq.proofs.Laws.{or_left, or_right, length_from, cond_has}
use Rattle.movement.specs.declared.Motion.{Motion}
use Rattle.movement.specs.declared.Motion.TheVariants.{Space, Skip}
use Rattle.movement.specs.declared.Moved.{Moved}
use Rattle.form.specs.Form.{channel_at}
use Rattle.movement.specs.Movement.{Spot, spot, entered, round, up_to_first, has, spaced, skipped, moved}

-- What every line of a walk is.
module _ (Q : Spot → Type 0) where
  data All : List Spot → Type 0 where
    end : All []
    step : {s : Spot} {ss : List Spot} → Q s → All ss → All (s ∷ ss)

  all_append : {v w : List Spot} → All v → All w → All (v ++ w)
  all_append end m = m
  all_append (step a n) m = step a (all_append n m)

  all-last : {s : Spot} {w : List Spot} → Q s → All w → Q (last_or s w)
  all-last a end = a
  all-last a (step b n) = all-last b n

  all_first : (f : Spot → Bool) {w : List Spot} → All w → All (up_to_first f w)
  unfolding up_to_first
  all_first f end = end
  all_first f (step {s} a n) = step a (cond_has All (f s) (λ e. end) (λ e. all_first f n))

  all_from : (form a n : ℕ) → ((l : ℕ) → a ≤ l → l < a + n → Q (spot form l)) → All (map (spot form) (from a n))
  all_from form a zero q = end
  all_from form a (suc n) q = step (q a (omega arith) (omega arith)) (all_from form (suc a) n (λ l h k. q l (omega arith) (omega arith)))

  all-entered : (p c n : ℕ) → ((l : ℕ) → c < l → l ≤ p → Q (spot 0 l)) → Q (spot 1 1) → All (entered p c n)
  unfolding entered
  all-entered p c zero q o = end
  all-entered p c (suc n) q o =
      cond_has All (ltb c p)
      (λ e. step (q (suc c) (omega arith) (ltb-true c p e)) (all-entered p (suc c) n (λ l h k. q l (omega arith) k) o))
      (λ e. step o end)

  all-round : (p c : ℕ) → ((l : ℕ) → c < l → l ≤ p → Q (spot 0 l)) → ((l : ℕ) → 1 ≤ l → l ≤ c → Q (spot 1 l)) → All (round p c)
  unfolding round
  all-round p c q o =
      all_append (all_from 0 (c + 1) (p - c) (λ l h k. q l (omega arith) (omega arith))) (all_from 1 1 c (λ l h k. o l h (omega arith)))

-- A line of this form after c, or a line of the next form; either way one of its p lines.
pub data Ahead (p c : ℕ) (s : Spot) : Type 0 where
  down : s.form ≡ 0 → c < s.line → s.line ≤ p → Ahead p c s
  over : s.form ≡ 1 → 1 ≤ s.line → s.line ≤ p → Ahead p c s

-- Where a movement leads: nowhere, if it has no lines, or ahead.
pub data Went (p c : ℕ) (m : Moved) : Type 0 where
  stays : m.lines ≡ 0 → m.pages ≡ 0 → m.line ≡ c → Went p c m
  goes : 1 ≤ m.lines → Ahead p c (spot m.pages m.line) → Went p c m

-- The lines that a skip looks at: P of them round the form, and all P if none matches.
pub round-length : (p c : ℕ) → c ≤ p → length (round p c) ≡ p
unfolding round
round-length p c h = simp (length-append, length-map, length_from) (omega arith)

pub first_some : (f : Spot → Bool) (w : List Spot) → 1 ≤ length w → 1 ≤ length (up_to_first f w)
unfolding up_to_first
first_some f [] h = h
first_some f (s ∷ ss) h = omega arith

first-most : (f : Spot → Bool) (w : List Spot) → length (up_to_first f w) ≤ length w
unfolding up_to_first
first-most f [] = omega arith
first-most f (s ∷ ss) =
    cond_has (λ (l : List Spot). length (s ∷ l) ≤ suc (length ss)) (f s) (λ e. omega arith) (λ e. omega (arith, first-most f ss))

first-all : (f : Spot → Bool) (w : List Spot) → any f w ≡ false → up_to_first f w ≡ w
unfolding up_to_first
first-all f [] e = refl
first-all f (s ∷ ss) e = rw (or_left (f s) (any f ss) e, first-all f ss (or_right (f s) (any f ss) e))

entered-most : (p c n : ℕ) → length (entered p c n) ≤ n
unfolding entered
entered-most p c zero = omega arith
entered-most p c (suc n) =
    cond_has (λ (l : List Spot). length l ≤ suc n) (ltb c p) (λ e. omega (arith, entered-most p (suc c) n)) (λ e. omega arith)

module _ (ls : List ℕ) (c : ℕ) (on : c ≤ length ls) (some : 1 ≤ length ls) where
  walk-went : (w : List Spot) (nine twelve missed : Bool) → All (Ahead (length ls) c) w
      → Went (length ls) c (record { lines = length w; pages = (last_or (spot 0 c) w).form; line = (last_or (spot 0 c) w).line; nine = nine; twelve = twelve; missed = missed })
  walk-went [] nine twelve missed end = stays refl refl refl
  walk-went (s ∷ ss) nine twelve missed (step a n) = goes (omega arith) (all-last (Ahead (length ls) c) a n)

  skip-went : (f : Spot → Bool) (found : Bool)
      → (let w = up_to_first f (round (length ls) c) in let to = cond found (last_or (spot 0 c) w) (spot 1 1) in
      Went (length ls) c (record { lines = length w; pages = to.form; line = to.line; nine = false; twelve = false; missed = not found }))
  skip-went f true =
      walk-went _ _ _ _
      (all_first (Ahead (length ls) c) f (all-round (Ahead (length ls) c) (length ls) c (λ l h k. down refl h k) (λ l h k. over refl h (omega arith))))
  skip-went f false = goes (first_some f (round (length ls) c) (omega (arith, round-length (length ls) c on))) (over refl (lit≤ tt) some)

  pub went : (m : Motion) → Went (length ls) c (moved ls c m)
  unfolding moved spaced skipped
  went (Space n) = walk-went _ _ _ _ (all-entered (Ahead (length ls) c) (length ls) c n (λ l h k. down refl h k) (over refl (lit≤ tt) some))
  went (Skip channel) = skip-went (has ls channel) (any (has ls channel) (round (length ls) c))

  -- At most n lines of a space, at most P of a skip, and P if nothing matches.
  pub spaced-most : (n : ℕ) → (moved ls c (Space n)).lines ≤ n
  unfolding moved spaced
  spaced-most n = entered-most (length ls) c n

  pub skipped-most : (channel : ℕ) → (moved ls c (Skip channel)).lines ≤ length ls
  unfolding moved skipped
  skipped-most channel = omega (arith, first-most (has ls channel) (round (length ls) c), round-length (length ls) c on)

  pub skipped-none : (channel : ℕ) → (moved ls c (Skip channel)).missed ≡ true → (moved ls c (Skip channel)).lines ≡ length ls
  unfolding moved skipped
  skipped-none channel e = ap length (first-all (has ls channel) (round (length ls) c) (not-true _ e)) ∙ round-length (length ls) c on

-- At most one page, on every form and from every line: a walk never goes beyond the next form.
abbrev Near : Spot → Type 0
Near s = s.form ≤ 1

pub one-page : (ls : List ℕ) (c : ℕ) (m : Motion) → (moved ls c m).pages ≤ 1
unfolding moved spaced skipped
one-page ls c (Space n) = all-last Near (lit≤ tt) (all-entered Near (length ls) c n (λ l h k. lit≤ tt) (lit≤ tt))
one-page ls c (Skip channel) =
    cond_has Near (any (has ls channel) (round (length ls) c))
    (λ e. all-last Near (lit≤ tt) (all_first Near (has ls channel) (all-round Near (length ls) c (λ l h k. lit≤ tt) (λ l h k. lit≤ tt))))
    (λ e. lit≤ tt)

-- A form of 15 lines with channels 1, 9 and 12 on its first three: from a line, a motion, and what it does.
pub record Try : Type 0 where
  pub from-line : ℕ
  pub motion : Motion
  pub does : Moved

abbrev try : ℕ → Motion → ℕ → ℕ → ℕ → Bool → Bool → Bool → Try
try c m n p l nine twelve missed = record { from-line = c; motion = m; does = record { lines = n; pages = p; line = l; nine = nine; twelve = twelve; missed = missed } }

abbrev tries : List Try
tries =
    -- lines 2 and 3; line 15, then line 1 of the next form and no further
    try 1 (Space 2) 2 0 3 true true false ∷ try 14 (Space 3) 2 1 1 false false false
    -- on this form; on the next; round to the own line; no match
    ∷ try 1 (Skip 9) 1 0 2 false false false ∷ try 5 (Skip 9) 12 1 2 false false false ∷ try 1 (Skip 1) 15 1 1 false false false
    ∷ try 5 (Skip 2) 15 1 1 false false true
    ∷ []

pub move-table : map (λ t. moved (1 ∷ 9 ∷ 0x0C ∷ zeros 12) t.from-line t.motion) tries ≡ map (λ t. t.does) tries
unfolding moved spaced skipped entered round up_to_first channel_at
move-table = refl
