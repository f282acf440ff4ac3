-- One pass over an FCB gives its layout, and the layout says where the printable lines stand: they are one block, since where a line
-- starts only grows.
use Prim.Native.Nat.{ℕ, ◌+◌, ◌-◌, ◌%◌, ◌≤◌}
use mathlib.Core.Path.{◌≡◌, refl, sym, ap, ◌∙◌}
use mathlib.Core.Bool.{Bool, true, false, true≢false, cond, not, ◌&&◌, ◌||◌, or-false, or_assoc, and-false}
use mathlib.Core.List.{List, [], ◌∷◌}
use native.Mathlib.Nat.{add_assoc, add-zero, zero-add}
use native.Mathlib.Omega.{arith}
use lib.Dec.{eqb, leb, ltb}
use lib.ListN.{length, take, drop, take-append-drop, length-drop}
use lib.Seq.{take-append-le, drop-append-le}
use borrow.Author.Tests.{eqb-true, ltb-true, ltb-false, le-ltb, le-leb, lt-leb, not-false}
use Rattle.seq.specs.Words.{any, bit}
use Rattle.seq.proofs.Laws.{cond_has}
use Rattle.form.specs.declared.Layout.{Layout}
use Rattle.form.specs.declared.fcb.Pass.{Pass}
use Rattle.form.specs.declared.Forms.{Forms}
use Rattle.form.specs.Form.{upper, units, half_inch, runs, runs_from, units_total, between, lines_where, printable, edges, high_channel, bad_channel, other_upper, odd_run, layout_of, fcb_now, has_channel}
use Rattle.form.specs.Pass.{start, step_of}
use Rattle.form.proofs.FormLaws.{odd}

-- Runs are whole half inches exactly where every change of spacing, and the end, is a whole number of half inches down.
unfoldable pub odd_from : ℕ → ℕ → List ℕ → Bool
odd_from u off [] = odd off
odd_from u off (b ∷ bs) = (not (eqb (upper b) u) && odd off) || odd_from (upper b) (off + units b) bs

odd-change : (n off v : ℕ) (p q : Bool) → off % half_inch ≡ n % half_inch
    → ((off + v) % half_inch ≡ v % half_inch → p ≡ q) → (odd off || p) ≡ (odd n || q)
odd-change n off v p q e h = go (odd off) refl
  where
    go : (t : Bool) → odd off ≡ t → (t || p) ≡ (odd n || q)
    go true k = rw (← e, k) refl
    go false k = let z : off % half_inch ≡ 0 = eqb-true _ _ (not-false _ k) in rw (← e, k) (h (omega arith))

odd_step : (u n off b : ℕ) (bs : List ℕ) (t : Bool) → eqb (upper b) u ≡ t → off % half_inch ≡ n % half_inch
    → ((m : ℕ) → (off + units b) % half_inch ≡ m % half_inch → odd_from (upper b) (off + units b) bs ≡ any odd (runs_from (upper b) m bs))
    → ((not t && odd off) || odd_from (upper b) (off + units b) bs)
    ≡ any odd (cond t (runs_from u (n + units b) bs) (n ∷ runs_from (upper b) (units b) bs))
odd_step u n off b bs true k e ih = rw (← (eqb-true (upper b) u k)) (ih (n + units b) (omega arith))
odd_step u n off b bs false k e ih = odd-change n off (units b) _ _ e (ih (units b))

odd-from : (u n off : ℕ) (f : List ℕ) → off % half_inch ≡ n % half_inch → odd_from u off f ≡ any odd (runs_from u n f)
unfolding odd_from runs_from
odd-from u n off [] e = rw e (sym (or-false (odd n)))
odd-from u n off (b ∷ bs) e = odd_step u n off b bs (eqb (upper b) u) refl e (λ m k. odd-from (upper b) m (off + units b) bs k)

pub odd-start : (f : List ℕ) → odd_from 0 0 f ≡ odd_run f
unfolding odd_from runs
odd-start [] = refl
odd-start (b ∷ bs) = rw (and-false (not (eqb (upper b) 0))) (odd-from (upper b) (units b) (0 + units b) bs (omega arith))

-- A line that starts in the first half inch.
abbrev first : ℕ → Bool
first off = ltb off half_inch

-- a line more, where its test says so
length-line : (t : Bool) (b : ℕ) (ls : List ℕ) → bit t 1 + length ls ≡ length (cond t (b ∷ ls) ls)
length-line true b ls = omega arith
length-line false b ls = omega arith

any-line : (g : ℕ → Bool) (t : Bool) (b : ℕ) (ls : List ℕ) → ((t && g b) || any g ls) ≡ any g (cond t (b ∷ ls) ls)
any-line g true b ls = refl
any-line g false b ls = refl

-- What the pass has found, joined with what the bytes that are left contribute.
module _ (len : ℕ) where
  abbrev edgy : ℕ → Bool
  edgy off = not (between len off)

  unfoldable pub joined : Pass → List ℕ → Layout
  joined s f =
      record {
        channel = s.channel || bad_channel f;
        spacing = (s.other || other_upper f) || (s.odd || odd_from s.upper s.units f);
        units = s.units + units_total f;
        edge = s.edge || any has_channel (lines_where edgy s.units f);
        top = s.top + length (lines_where first s.units f);
        lines = s.lines + length (lines_where (between len) s.units f);
      }

  pub joined-start : (f : List ℕ) → joined start f ≡ layout_of len f
  unfolding joined start layout_of edges printable
  joined-start f =
      λ i.
      record {
        channel = bad_channel f;
        spacing = other_upper f || odd-start f i;
        units = zero-add (units_total f) i;
        edge = any has_channel (lines_where edgy 0 f);
        top = zero-add (length (lines_where first 0 f)) i;
        lines = zero-add (length (lines_where (between len) 0 f)) i;
      }

  pub joined_step : (s : Pass) (b : ℕ) (bs : List ℕ) → joined s (b ∷ bs) ≡ joined (step_of (len - half_inch) s b) bs
  unfolding joined step_of units_total odd_from lines_where
  joined_step s b bs =
      let at = s.units in
      let counted : (n : ℕ) (t : ℕ → Bool) → n + bit (t at) 1 + length (lines_where t (at + units b) bs) ≡ n + length (lines_where t at (b ∷ bs)) =
      λ n t. add_assoc n (bit (t at) 1) _ ∙ ap (λ (m : ℕ). n + m) (length-line (t at) b _) in
      sym
      (λ i.
      record {
        channel = or_assoc s.channel (high_channel b) (bad_channel bs) i;
        spacing =
            or_assoc s.other (eqb (units b) 0) (other_upper bs) i
            || or_assoc s.odd (not (eqb (upper b) s.upper) && odd at) (odd_from (upper b) (at + units b) bs) i;
        units = add_assoc at (units b) (units_total bs) i;
        edge =
            (or_assoc s.edge (edgy at && has_channel b) (any has_channel (lines_where edgy (at + units b) bs))
            ∙ ap (λ (v : Bool). s.edge || v) (any-line has_channel (edgy at) b (lines_where edgy (at + units b) bs)))
            i;
        top = counted s.top first i;
        lines = counted s.lines (between len) i;
      })

  -- the last run ends with the form
  pub joined_end : (s : Pass) → joined s [] ≡ record {
    channel = s.channel;
    spacing = s.other || (s.odd || odd s.units);
    units = s.units;
    edge = s.edge;
    top = s.top;
    lines = s.lines;
  }
  unfolding joined units_total odd_from lines_where
  joined_end s = simp (or-false, add-zero)

no_lines : (t : ℕ → Bool) (off : ℕ) (f : List ℕ) → ((m : ℕ) → off ≤ m → t m ≡ false) → lines_where t off f ≡ []
unfolding lines_where
no_lines t off [] h = refl
no_lines t off (b ∷ bs) h = rw (h off (omega arith)) (no_lines t (off + units b) bs (λ m k. h m (omega arith)))

-- what lies in a front of a list may be taken from the list
in-front : (a n c : ℕ) (l : List ℕ) → a + n ≤ length (take c l) → take n (drop a l) ≡ take n (drop a (take c l))
in-front a n c l h =
    ap (λ (m : List ℕ). take n (drop a m)) (sym (take-append-drop c l))
    ∙ rw (drop-append-le a (take c l) (drop c l) (omega arith)) (take-append-le n (drop a (take c l)) (drop c l) (rw length-drop (omega arith)))

module _ (len : ℕ) where
  abbrev block : ℕ → List ℕ → List ℕ
  block off f = lines_where (between len) off f

  first-not : (off : ℕ) → first off ≡ true → between len off ≡ false
  first-not off e = rw (lt-leb half_inch off (ltb-true off half_inch e)) refl

  one_of : (off : ℕ) → bit (first off) 1 + bit (between len off) 1 ≤ 1
  one_of off = go (first off) refl (between len off) refl
    where
      go : (t : Bool) → first off ≡ t → (u : Bool) → between len off ≡ u → bit t 1 + bit u 1 ≤ 1
      go true e true k = absurd (true≢false (sym k ∙ first-not off e))
      go true e false k = omega arith
      go false e true k = omega arith
      go false e false k = omega arith

  fits-from : (off : ℕ) (f : List ℕ) → length (lines_where first off f) + length (block off f) ≤ length f
  unfolding lines_where
  fits-from off [] = omega arith
  fits-from off (b ∷ bs) =
      let firsts = length-line (first off) b (lines_where first (off + units b) bs) in
      let lines = length-line (between len off) b (block (off + units b) bs) in
      omega (arith, firsts, lines, one_of off, fits-from (off + units b) bs)

  -- after the first half inch, no line that follows one that is not printable is
  past : (off m : ℕ) → half_inch ≤ off → between len off ≡ false → off ≤ m → between len m ≡ false
  past off m h e k =
      let l : len - half_inch ≤ off = ltb-false off (len - half_inch) (rw (le-leb half_inch off h) at e) in
      rw (le-ltb m (len - half_inch) (omega arith)) (and-false (leb half_inch m))

  block-from : (off : ℕ) (f : List ℕ) → half_inch ≤ off → take (length (block off f)) f ≡ block off f
  unfolding lines_where
  block-from off [] h = refl
  block-from off (b ∷ bs) h =
      cond_has (λ (ls : List ℕ). take (length ls) (b ∷ bs) ≡ ls) (between len off)
      (λ e. ap (λ (ls : List ℕ). b ∷ ls) (block-from (off + units b) bs (omega arith)))
      (λ e. rw (no_lines (between len) (off + units b) bs (λ m k. past off m h e (omega arith))) refl)

  part-from : (off : ℕ) (f : List ℕ) → take (length (block off f)) (drop (length (lines_where first off f)) f) ≡ block off f
  unfolding lines_where
  part-from off [] = refl
  part-from off (b ∷ bs) =
      cond_has (λ (ls : List ℕ). take (length (block off (b ∷ bs))) (drop (length ls) (b ∷ bs)) ≡ block off (b ∷ bs)) (first off)
      (λ e. rw (first-not off e) (part-from (off + units b) bs))
      (λ e.
      let h : half_inch ≤ off = ltb-false off half_inch e in
      rw (no_lines first (off + units b) bs (λ m k. le-ltb m half_inch (omega arith))) (block-from off (b ∷ bs) h))

  pub layout-fits : (f : List ℕ) → (layout_of len f).top + (layout_of len f).lines ≤ length f
  unfolding layout_of printable
  layout-fits f = fits-from 0 f

  lines-part : (f : List ℕ) → take (layout_of len f).lines (drop (layout_of len f).top f) ≡ printable len f
  unfolding layout_of printable
  lines-part f = part-from 0 f

  -- The bytes that a printer keeps begin with its FCB.
  pub lines-in-array : (s : Forms) → take (layout_of len (fcb_now s)).lines (drop (layout_of len (fcb_now s)).top s.fcb) ≡ printable len (fcb_now s)
  lines-in-array s = in-front _ _ s.count s.fcb (layout-fits (fcb_now s)) ∙ lines-part (fcb_now s)
