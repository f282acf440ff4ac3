-- Of forms control that its load takes: its record fits, and it has a printable line and no more than a page has. The starting FCB is such.
use Prim.Native.Nat.{ℕ, suc, ◌+◌, ◌*◌, ◌-◌, ◌/◌, ◌%◌, ◌≤◌, ◌<◌, max}
use mathlib.Core.Path.{◌≡◌, refl, sym, ap, ◌∙◌}
use mathlib.Core.Bool.{Bool, true, false, cond, not, ◌&&◌, true≢false, and-true}
use mathlib.Core.List.{List, [], ◌∷◌, ◌++◌, map}
use native.Mathlib.Omega.{arith}
use lib.ListN.{length, set, replicate, length-replicate, replicate-append-replicate}
use lib.Dec.{eqb, leb, ltb, lit≤}
use borrow.Author.Tests.{ltb-true, lt-ltb, leb-true, leb-false, eqb-true, not-false}
use Rattle.seq.specs.Words.{all, when, first_or, listed, total, zeros, padded}
use Rattle.std.specs.Prelude.{Ok, Err}
use Rattle.seq.proofs.Laws.{and_left, and_right, or_left, or_right, cond_has, listed-all, passed, every-at}
use Rattle.numbers.specs.declared.Cause.TheVariants.{FcbChannel, FcbSpacing, FcbSum, FcbEdge}
use Rattle.numbers.specs.Numbers.{is_sound}
use Rattle.numbers.specs.Sizes.{page_lines}
use Rattle.numbers.proofs.Laws.{faulty, sound-is}
use Rattle.form.specs.Form.{form_lengths, form_ok, upper, units_of, most_units, least_units, units, half_inch, runs, runs_from, units_total, between, lines_where, printable, edges, other_upper, odd_run, fcb_check, layout_check, layout_of, channel_at, start_fcb, fcb_size, forms_of}

-- no whole number of half inches
abbrev pub odd : ℕ → Bool
odd n = not (eqb (n % half_inch) 0)

-- What the checks found of spacings and sum.
record Passes (len : ℕ) (f : List ℕ) : Type 0 where
  pub spacings : other_upper f ≡ false
  pub sum : units_total f ≡ len

passes : (len : ℕ) (f : List ℕ) → fcb_check len f ≡ Ok tt → Passes len f
unfolding fcb_check layout_check layout_of
passes len f e =
    let h = passed _ _ faulty (passed _ _ faulty e).1 in
    record { spacings = or_left (other_upper f) (odd_run f) h.0; sum = eqb-true _ _ (not-false _ (passed _ _ faulty h.1).0) }

-- An upper half means 4, 3 or 2 units, or none of these.
pub units-has : (P : ℕ → Type 0) (u : ℕ) → P 4 → P 3 → P 2 → P 0 → P (units_of u)
unfolding units_of
units-has P u four three two none =
    cond_has P (eqb u 0) (λ e. four) (λ e. cond_has P (eqb u 1) (λ e. three) (λ e. cond_has P (eqb u 3) (λ e. two) (λ e. none)))

units-least : (u : ℕ) → eqb (units_of u) 0 ≡ false → least_units ≤ units_of u
units-least u = units-has (λ n. eqb n 0 ≡ false → least_units ≤ n) u (λ e. lit≤ tt) (λ e. lit≤ tt) (λ e. lit≤ tt) (λ e. absurd (true≢false e))

units-most : (u : ℕ) → units_of u ≤ most_units
units-most u = units-has (λ n. n ≤ most_units) u (lit≤ tt) (lit≤ tt) (lit≤ tt) (lit≤ tt)

-- the first byte's spacing is one of the three, and so are the others'
pub first-upper : (b : ℕ) (bs : List ℕ) → other_upper (b ∷ bs) ≡ false → eqb (units b) 0 ≡ false
first-upper b bs h = or_left (eqb (units b) 0) (other_upper bs) h

pub rest-upper : (b : ℕ) (bs : List ℕ) → other_upper (b ∷ bs) ≡ false → other_upper bs ≡ false
rest-upper b bs h = or_right (eqb (units b) 0) (other_upper bs) h

-- A form that Start takes has a listed length, from the shortest to the longest.
abbrev pub shortest : ℕ
shortest = 72

abbrev pub longest : ℕ
longest = 288

pub form-listed : (len : ℕ) (ps : List ℕ) → form_ok len ps ≡ true → listed form_lengths len ≡ true
unfolding form_ok
form-listed len ps e = every-at 0 _ e

pub short-form : (n : ℕ) → listed form_lengths n ≡ true → n ≤ longest
unfolding form_lengths
short-form n e = leb-true n longest (listed-all (λ m. leb m longest) n form_lengths refl e)

pub long-form : (n : ℕ) → listed form_lengths n ≡ true → shortest ≤ n
unfolding form_lengths
long-form n e = leb-true shortest n (listed-all (λ m. leb shortest m) n form_lengths refl e)

least-each : (f : List ℕ) → other_upper f ≡ false → least_units * length f ≤ units_total f
unfolding units_total
least-each [] h = omega arith
least-each (b ∷ bs) h =
    let ih : least_units * length bs ≤ total (map units bs) = least-each bs (rest-upper b bs h) in
    omega (arith, units-least (upper b) (first-upper b bs h))

-- each printable line starts at least so many units after the one before it
abbrev room : ℕ → ℕ → ℕ
room len off = suc (len - half_inch) - max off half_inch

few-step : (len off u b : ℕ) (rest : List ℕ) (t : Bool) → between len off ≡ t → least_units ≤ u
    → least_units * length rest ≤ room len (off + u) → least_units * length (cond t (b ∷ rest) rest) ≤ room len off
few-step len off u b rest true e two ih =
    let lo : half_inch ≤ off = leb-true half_inch off (and_left (leb half_inch off) (ltb off (len - half_inch)) e) in
    let hi : off < len - half_inch = ltb-true off (len - half_inch) (and_right (leb half_inch off) (ltb off (len - half_inch)) e) in
    omega arith
few-step len off u b rest false e two ih = omega arith

few-from : (len off : ℕ) (f : List ℕ) → other_upper f ≡ false → least_units * length (lines_where (between len) off f) ≤ room len off
unfolding lines_where
few-from len off [] h = omega arith
few-from len off (b ∷ bs) h =
    few-step len off (units b) b (lines_where (between len) (off + units b) bs) (between len off) refl
    (units-least (upper b) (first-upper b bs h)) (few-from len (off + units b) bs (rest-upper b bs h))

-- a form goes on past its first half inch
above : (len off : ℕ) → off < len - half_inch → between len off ≡ false → off < half_inch
above len off h e = leb-false half_inch off (sym (and-true (leb half_inch off)) ∙ rw (lt-ltb off (len - half_inch) h) at e)

some-step : (b : ℕ) (rest : List ℕ) (t : Bool) → (t ≡ false → 1 ≤ length rest) → 1 ≤ length (cond t (b ∷ rest) rest)
some-step b rest true h = omega arith
some-step b rest false h = h refl

some-from : (len off : ℕ) (f : List ℕ) → shortest ≤ len → off < len - half_inch → off + units_total f ≡ len → 1 ≤ length (lines_where (between len) off f)
unfolding units_total lines_where
some-from len off [] h l e = absurd (omega arith)
some-from len off (b ∷ bs) h l e =
    some-step b (lines_where (between len) (off + units b) bs) (between len off)
    (λ t. some-from len (off + units b) bs h (omega (arith, above len off l t, units-most (upper b))) (omega arith))

module _ (len : ℕ) (f : List ℕ) (l : listed form_lengths len ≡ true) (e : fcb_check len f ≡ Ok tt) where
  pub fcb-fits : length f ≤ fcb_size
  fcb-fits = omega (arith, short-form len l, least-each f (passes len f e).spacings, (passes len f e).sum)

  pub few-lines : length (printable len f) ≤ page_lines
  unfolding printable
  few-lines = omega (arith, short-form len l, few-from len 0 f (passes len f e).spacings)

  pub some-line : 1 ≤ length (printable len f)
  unfolding printable
  some-line = some-from len 0 f (long-form len l) (omega (arith, long-form len l)) (omega (arith, (passes len f e).sum))

-- The starting FCB of every form: its load takes it, its channel 1 is at line 1, and it has six lines for each inch but one.
abbrev starts : ℕ → Bool
starts n = is_sound (fcb_check n (start_fcb n)) && eqb (channel_at (printable n (start_fcb n)) 1) 1

pub starting-fcb : all starts form_lengths ≡ true
unfolding form_lengths fcb_check layout_check layout_of runs runs_from units_total units_of lines_where edges start_fcb first_or when channel_at printable
starting-fcb = refl

pub starting-P : map (λ n. length (printable n (start_fcb n))) form_lengths ≡ 15 ∷ 27 ∷ 36 ∷ 45 ∷ 60 ∷ 12 ∷ 18 ∷ 30 ∷ 42 ∷ 54 ∷ 66 ∷ []
unfolding form_lengths printable lines_where start_fcb units_of
starting-P = refl

pub start-sound : (len : ℕ) → listed form_lengths len ≡ true → fcb_check len (start_fcb len) ≡ Ok tt
start-sound len l = sound-is _ (and_left _ (eqb (channel_at (printable len (start_fcb len)) 1) 1) (listed-all starts len form_lengths starting-fcb l))

-- The starting FCB as an array: all zeros but channel 1 at its fourth byte, and a count of six lines an inch.
start-rest : (m : ℕ) → 4 + m ≤ fcb_size → zeros m ++ zeros (fcb_size - suc (suc (suc (suc (length (zeros m)))))) ≡ zeros (fcb_size - 4)
start-rest m h =
    let k : m + (fcb_size - suc (suc (suc (suc m)))) ≡ fcb_size - 4 = omega arith in
    rw (length-replicate {A = ℕ} m 0) (replicate-append-replicate m (fcb_size - suc (suc (suc (suc m)))) 0 ∙ ap zeros k)

start-bytes : (m : ℕ) → 4 + m ≤ fcb_size → padded fcb_size (zeros 3 ++ 1 ∷ zeros m) ≡ set (zeros fcb_size) 3 1
unfolding padded
start-bytes m h = ap (λ (l : List ℕ). 0 ∷ 0 ∷ 0 ∷ 1 ∷ l) (start-rest m h)

start-count : (m n : ℕ) → 4 + m ≡ n → length (zeros 3 ++ 1 ∷ zeros m) ≡ n
start-count m n h = omega (arith, length-replicate {A = ℕ} m 0)

-- It wants a first half inch and line 1, and no more lines than fit; every form listed has that.
pub start-forms : (len : ℕ) → half_inch + most_units ≤ len → len ≤ most_units * fcb_size → forms_of (start_fcb len) ≡ record { fcb = set (zeros fcb_size) 3 1; count = len / most_units }
unfolding forms_of start_fcb
start-forms len lo hi =
    let b = start-bytes (len / 4 - 4) (omega arith) in
    let c = start-count (len / 4 - 4) (len / 4) (omega arith) in
    λ i. record { fcb = b i; count = c i }

pub start-room : (len : ℕ) → listed form_lengths len ≡ true → (half_inch + most_units ≤ len) × (len ≤ most_units * fcb_size)
start-room len l = (omega (arith, long-form len l), omega (arith, short-form len l))

-- The four checks in their order, on the form of 84 units: what each record breaks first.
pub fcb-table : map (fcb_check 84)
    -- channel 13, with another upper half too
    (replicate 21 0x2D
    -- another upper half; runs that are not whole half inches, though the sum is right
    ∷ replicate 21 0x20 ∷ (zeros 3 ++ (0x10 ∷ 0x10 ∷ 0x30 ∷ 0x30 ∷ 0x30 ∷ zeros 15))
    -- a sum too small, with a channel in an edge half inch too; an empty record
    ∷ (1 ∷ zeros 17) ∷ []
    -- a channel in the first half inch, and in the last
    ∷ (1 ∷ zeros 20) ∷ (zeros 18 ++ (1 ∷ zeros 2))
    -- 6, 8 and 12 lines per inch, and 8 after an inch of 6
    ∷ zeros 21 ∷ replicate 28 0x10 ∷ replicate 42 0x30 ∷ (zeros 6 ++ replicate 20 0x10)
    ∷ [])
    ≡ Err FcbChannel ∷ Err FcbSpacing ∷ Err FcbSpacing ∷ Err FcbSum ∷ Err FcbSum ∷ Err FcbEdge ∷ Err FcbEdge ∷ Ok tt ∷ Ok tt ∷ Ok tt ∷ Ok tt ∷ []
unfolding fcb_check layout_check layout_of runs runs_from units_total units_of lines_where edges first_or when
fcb-table = refl
