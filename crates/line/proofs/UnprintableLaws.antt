-- What is told of unprintable positions: of one list of them after another; as a loop finds them; that first and number are both 0 or neither; and when it
-- is a data check.
use Prim.Native.Nat.{ℕ, suc, ◌+◌, ◌/◌, ◌≤◌, ◌<◌}
use mathlib.Core.Path.{◌≡◌, refl, sym, ap, ◌∙◌}
use mathlib.Core.Bool.{Bool, true, false, cond, not, ◌&&◌}
use mathlib.Core.List.{List, [], ◌∷◌, ◌++◌, append-nil}
use native.Mathlib.Omega.{arith}
use native.Mathlib.Nat.{add-zero}
use lib.ListN.{length, get_or, take, length-append, length-take}
use lib.Dec.{eqb, leb}
use borrow.Author.Tests.{leb-true, ne_eqb}
use Rattle.seq.specs.Words.{all, places_from, bit}
use Rattle.seq.proofs.Laws.{and_left, and_right, bit-most}
use Rattle.seq.proofs.Places.{count-more, first_more, places-all, places-few, places-within}
use Rattle.numbers.specs.Sizes.{line_width, legend_size}
use Rattle.line.specs.declared.Unprintables.{Unprintables}
use Rattle.line.specs.declared.Causes.{Causes}
use Rattle.line.specs.Line.{unprintable, unprintable_at, told, any_unprintable, cause_byte}

-- one list after another: a list with none adds nothing, and else the first of all is the first one's
pub told-before : (ns ms : List ℕ) → length ms ≡ 0 → told ns ≡ told (ns ++ ms)
told-before ns [] e = ap told (sym (append-nil ns))
told-before ns (m ∷ ms) e = absurd (omega (arith, e))

pub told-after : (ns ms : List ℕ) → length ns ≡ 0 → told ms ≡ told (ns ++ ms)
told-after [] ms e = refl
told-after (n ∷ ns) ms e = absurd (omega (arith, e))

pub told-both : (ns ms : List ℕ) → (length ns ≡ 0 → ⊥) → record { first = get_or ns 0 0; count = length ns + length ms } ≡ told (ns ++ ms)
told-both [] ms h = absurd (h refl)
told-both (n ∷ ns) ms h = rw length-append refl

-- one more position behind others
pub told-one : (ns : List ℕ) (m : ℕ) → told (ns ++ (m ∷ [])) ≡ record { first = cond (eqb (length ns) 0) m (get_or ns 0 0); count = length ns + 1 }
told-one [] m = refl
told-one (n ∷ ns) m = rw (ne_eqb (suc (length ns)) 0 (λ z. omega (arith, z)), length-append) refl

-- After i turns of a loop the positions of the first i elements that pass are told.
pub record Telling (f : ℕ → Bool) (xs : List ℕ) (i : ℕ) (u : Unprintables) : Type 0 where
  pub are : u ≡ told (places_from f 1 (take i xs))

module _ (f : ℕ → Bool) (xs : List ℕ) where
  pub telling-none : Telling f xs 0 (told [])
  telling-none = record { are = refl }

  -- what is told after a turn, by whether its element passes
  turned : (i : ℕ) → i < length xs → {t : Bool} → f (get_or xs i 0) ≡ t
      → record {
        first = cond (t && eqb (length (places_from f 1 (take i xs))) 0) (1 + i) (get_or (places_from f 1 (take i xs)) 0 0);
        count = length (places_from f 1 (take i xs)) + bit t 1;
      }
      ≡ told (places_from f 1 (take (i + 1) xs))
  turned i h {t} e =
      let ns = places_from f 1 (take i xs) in
      (λ j. record { first = cond (sym e j && eqb (length ns) 0) (1 + i) (get_or ns 0 0); count = length ns + bit (sym e j) 1 })
      ∙ (λ j. record { first = first_more f 0 1 i xs h j; count = count-more f 0 1 i xs h j })

  pub telling-with : {i : ℕ} {u v : Unprintables} → i < length xs → Telling f xs i u → f (get_or xs i 0) ≡ true
      → v ≡ told (places_from f 1 (take i xs) ++ ((1 + i) ∷ [])) → Telling f xs (i + 1) v
  telling-with {i} h t e w = record { are = w ∙ told-one (places_from f 1 (take i xs)) (1 + i) ∙ turned i h e }

  pub telling-past : {i : ℕ} {u v : Unprintables} → i < length xs → Telling f xs i u → f (get_or xs i 0) ≡ false → v ≡ u → Telling f xs (i + 1) v
  telling-past {i} h t e w =
      let ns = places_from f 1 (take i xs) in
      record { are = w ∙ t.are ∙ (λ j. record { first = get_or ns 0 0; count = sym (add-zero (length ns)) j }) ∙ turned i h e }

  pub telling-few : {i : ℕ} {u : Unprintables} → Telling f xs i u → u.count ≤ i
  telling-few {i} t = omega (arith, ap (λ (u : Unprintables). u.count) t.are, places-few f 1 (take i xs), length-take i xs)

  pub telling-all : {i : ℕ} {u : Unprintables} → length xs ≤ i → Telling f xs i u → u ≡ told (places_from f 1 xs)
  telling-all {i} h t = t.are ∙ ap told (places-all f 1 i xs h)

-- Positions that a line has; and what is told of such, where a record has no more of them than a load may have bytes.
abbrev pub positions : List ℕ → Bool
positions ns = all (λ k. leb 1 k && leb k line_width) ns

pub record Tells (u : Unprintables) : Type 0 where
  pub both : eqb u.first 0 ≡ eqb u.count 0
  pub first : u.first ≤ line_width
  pub count : u.count ≤ legend_size

pub told-tells : (ns : List ℕ) → positions ns ≡ true → length ns ≤ legend_size → Tells (told ns)
told-tells [] e h = record { both = refl; first = omega arith; count = omega arith }
told-tells (n ∷ ns) e h =
    let here = and_left _ (positions ns) e in
    record {
      both = ne_eqb n 0 (λ z. omega (arith, z, leb-true 1 n (and_left _ (leb n line_width) here))) ∙ sym (ne_eqb (suc (length ns)) 0 (λ z. omega (arith, z)));
      first = leb-true n line_width (and_right (leb 1 n) _ here);
      count = h;
    }

pub none-tells : Tells (told [])
none-tells = told-tells [] refl (omega arith)

-- a record's are such, and no more than it has bytes
pub unprintable-positions : (ps t r : List ℕ) → length r ≤ line_width → positions (unprintable_at ps t r) ≡ true
unfolding unprintable_at
unprintable-positions ps t r h = places-within (λ b. unprintable ps (get_or t b 0)) line_width 1 r (omega arith) (omega (arith, h))

pub unprintable-few : (ps t r : List ℕ) → length (unprintable_at ps t r) ≤ length r
unfolding unprintable_at
unprintable-few ps t r = places-few (λ b. unprintable ps (get_or t b 0)) 1 r

-- Sense byte 1 has 80 exactly where a position is told and Block does not hide it.
pub check-80 : (blocked : Bool) (c : Causes) → cause_byte blocked c / 0x80 ≡ bit (any_unprintable c && not blocked) 1
unfolding cause_byte
check-80 blocked c = go (any_unprintable c && not blocked)
  where
    go : (t : Bool) → (bit t 0x80 + bit c.unloaded 0x20 + bit c.unmatched 0x10 + bit (c.collision && not blocked) 0x08) / 0x80 ≡ bit t 1
    go true = omega (arith, bit-most c.unloaded 0x20, bit-most c.unmatched 0x10, bit-most (c.collision && not blocked) 0x08)
    go false = omega (arith, bit-most c.unloaded 0x20, bit-most c.unmatched 0x10, bit-most (c.collision && not blocked) 0x08)
