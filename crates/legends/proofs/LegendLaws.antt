-- What a legend load stores is read back as its segments, with their text translated, and 00 after them.
use Prim.Native.Nat.{ℕ, zero, suc, ◌-◌, ◌≤◌, ◌<◌}
use mathlib.Core.Path.{◌≡◌, refl, sym, ap, ◌∙◌}
use mathlib.Core.Bool.{Bool, true, false, cond, ◌||◌}
use mathlib.Core.List.{List, [], ◌∷◌, ◌++◌, map, append_assoc, append-nil, flatten}
use native.Mathlib.Omega.{arith}
use lib.ListN.{length, get_or, take, drop, length-append, length-take, length-drop, get_or-append}
use lib.Seq.{take_at, drop_at, get_or-take, length-take-le}
use lib.Dec.{eqb, lit<}
use borrow.Author.Tests.{ne_eqb, le-ltb}
use Rattle.seq.specs.Words.{empty, when, first_or, every, zeros, padded}
use Rattle.std.specs.Prelude.{Ok, Err}
use Rattle.seq.proofs.Laws.{passed, padded-zero, length-padded}
use Rattle.numbers.specs.Sizes.{line_width, legend_size}
use Rattle.numbers.specs.declared.Cause.TheVariants.{SegmentEnds, SegmentFields}
use Rattle.numbers.specs.Numbers.{is_sound}
use Rattle.numbers.proofs.Laws.{faulty}
use Rattle.line.specs.declared.Cell.{Cell}
use Rattle.line.specs.Cells.{unruled}
use Rattle.legends.proofs.SegmentLaws.{judged, SoundFirst, rest, tested, empty-or-sound, byte-set, cut-none, cut-more, cut-take, cut-end}
use Rattle.legends.specs.Legends.{head_size, segment_length, bad_head, segment_tests, cut, segments, legend_check, retext, stored_legends}
use Rattle.legends.specs.Legends.{stored_segments, legends_ok, no_legends, Segment, covers, shown}

-- A segment with its text and nothing after it, and several.
pub record Fit (s : List ℕ) : Type 0 where
  pub sound : SoundFirst s
  pub exact : length s ≤ segment_length s

pub data Fits : List (List ℕ) → Type 0 where
  end : Fits []
  more : {s : List ℕ} {ss : List (List ℕ)} → Fit s → Fits ss → Fits (s ∷ ss)

-- A record that its load takes is cut into such segments.
cut_most : (x : List ℕ) → length (take (segment_length x) x) ≤ segment_length (take (segment_length x) x)
cut_most x = rw (get_or-take (segment_length x) x 5 0 (omega arith), length-take) (omega arith)

cut_fits : (n : ℕ) (r : List ℕ) → first_or (Ok tt) (flatten (map segment_tests (cut (λ b. false) n r))) ≡ Ok tt → Fits (cut (λ b. false) n r)
unfolding cut flatten
cut_fits zero r e = end
cut_fits (suc n) [] e = end
cut_fits (suc n) (b ∷ bs) e =
    let t = tested (take (segment_length (b ∷ bs)) (b ∷ bs)) _ e in
    more (record { sound = t.0; exact = cut_most (b ∷ bs) }) (cut_fits n (rest (b ∷ bs)) t.1)

pub segments-fit : (r : List ℕ) → legend_check r ≡ Ok tt → Fits (segments r)
unfolding legend_check segments
segments-fit r e = cut_fits (length r) r (passed _ _ faulty e).1

-- Segments one after the other are cut into themselves, whether a cut ends at 00 or not, since none begins with 00.
abbrev Ends : (ℕ → Bool) → Type 0
Ends ends = (b : ℕ) → 1 ≤ b → ends b ≡ false

cut-cons : (ends : ℕ → Bool) (n : ℕ) (s q : List ℕ) → Ends ends → Fit s → cut ends (suc n) (s ++ q) ≡ s ∷ cut ends n q
cut-cons ends n s q h f =
    let size : segment_length (s ++ q) ≡ length s =
    rw (get_or-append s q 0 5 (omega (arith, f.sound.size))) (omega (arith, f.sound.size, f.exact)) in
    let first = get_or-append s q 0 0 (omega (arith, f.sound.size)) in
    cut-more ends n (s ++ q) (rw length-append (omega (arith, f.sound.size))) (rw first (h (get_or s 0 0) (byte-set s f.sound 0 (lit< tt))))
    ∙ rw (size, take_at s q (length s) refl, drop_at s q (length s) refl)

module _ (ends : ℕ → Bool) (h : Ends ends) (q : List ℕ) (z : (n : ℕ) → cut ends n q ≡ []) where
  cut-flatten : (n : ℕ) {ss : List (List ℕ)} → Fits ss → length ss ≤ n → cut ends n (flatten ss ++ q) ≡ ss
  unfolding flatten
  cut-flatten n end l = z n
  cut-flatten zero (more f g) l = absurd (omega arith)
  cut-flatten (suc n) (more {s} {ss} f g) l =
      ap (cut ends (suc n)) (append_assoc s (flatten ss) q)
      ∙ cut-cons ends n s (flatten ss ++ q) h f
      ∙ ap (λ (r : List (List ℕ)). s ∷ r) (cut-flatten n g (omega arith))

few-fits : {ss : List (List ℕ)} → Fits ss → length ss ≤ length (flatten ss)
unfolding flatten
few-fits end = omega arith
few-fits (more {s} {ss} f g) = rw (length-append s (flatten ss)) (omega (arith, few-fits g, f.sound.size))

segments-flatten : {ss : List (List ℕ)} → Fits ss → segments (flatten ss) ≡ ss
unfolding segments
segments-flatten {ss} g =
    ap (cut (λ b. false) (length (flatten ss))) (sym (append-nil (flatten ss)))
    ∙ cut-flatten (λ b. false) (λ b e. refl) [] (cut-none (λ b. false)) (length (flatten ss)) g (few-fits g)

-- Such segments, if any, pass the load's check.
fit-tests : (s : List ℕ) (ts : List (List ℕ)) → Fit s
    → first_or (Ok tt) (flatten (map segment_tests (s ∷ ts))) ≡ first_or (Ok tt) (flatten (map segment_tests ts))
unfolding flatten first_or when
fit-tests s ts f =
    let w = f.sound in
    rw (le-ltb (length s) head_size (omega (arith, w.size)), w.head, le-ltb (length s) (segment_length s) w.size)

fits-tests : {ss : List (List ℕ)} → Fits ss → first_or (Ok tt) (flatten (map segment_tests ss)) ≡ Ok tt
unfolding flatten first_or
fits-tests end = refl
fits-tests (more {s} {ss} f g) = fit-tests s ss f ∙ fits-tests g

some-or-sound : {ss : List (List ℕ)} → Fits ss → (empty (flatten ss) || is_sound (legend_check (flatten ss))) ≡ true
some-or-sound {ss} g =
    let e : judged (flatten ss) ≡ Ok tt = rw (segments-flatten g) (fits-tests g) in
    empty-or-sound (flatten ss) ∙ ap is_sound e

zero-first : (n : ℕ) → get_or (zeros n) 0 0 ≡ 0
zero-first zero = refl
zero-first (suc n) = refl

-- Legends that hold such segments and 00 after them are legends that a printer can have.
stored-fits : {ss : List (List ℕ)} → Fits ss → length (flatten ss) ≤ legend_size → stored_segments (padded legend_size (flatten ss)) ≡ ss
unfolding stored_segments padded
stored-fits {ss} g l =
    let k = legend_size - length (flatten ss) in
    cut-flatten (λ b. eqb b 0) (λ b h. ne_eqb b 0 (λ e. omega (arith, h, e))) (zeros k) (λ n. cut-end n (zeros k) (zero-first k))
    (length (flatten ss ++ zeros k)) g (simp length-append (omega (arith, few-fits g)))

padded-ok : {ss : List (List ℕ)} → Fits ss → length (flatten ss) ≤ legend_size → legends_ok (padded legend_size (flatten ss)) ≡ true
unfolding legends_ok every
padded-ok {ss} g l = rw (stored-fits g l, some-or-sound g, padded-zero legend_size (flatten ss))

pub none-ok : legends_ok no_legends ≡ true
unfolding no_legends padded flatten
none-ok = padded-ok end (omega arith)

-- The text of each segment put through f, which keeps its length.
module _ (f : List ℕ → List ℕ) (same : (x : List ℕ) → length (f x) ≡ length x) where
  pub retext-length : (s : List ℕ) → head_size ≤ length s → length (retext f s) ≡ length s
  retext-length s h = simp (length-append, same, length-take, length-drop) (omega arith)

  retext-six : (s : List ℕ) → head_size ≤ length s → take head_size (retext f s) ≡ take head_size s
  retext-six s h = take_at (take head_size s) (f (drop head_size s)) head_size (length-take-le head_size s h)

  retext-at : (s : List ℕ) (i : ℕ) → head_size ≤ length s → i < head_size → get_or (retext f s) i 0 ≡ get_or s i 0
  retext-at s i h l = get_or-append (take head_size s) (f (drop head_size s)) 0 i (omega (arith, length-take-le head_size s h)) ∙ get_or-take head_size s i 0 l

  retext-fit : (s : List ℕ) → Fit s → Fit (retext f s)
  unfolding bad_head
  retext-fit s t =
      let six : head_size ≤ length s = omega (arith, t.sound.size) in
      let fifth = retext-at s 5 six (lit< tt) in
      record {
        sound =
            record {
              head = rw (retext-six s six, retext-at s 4 six (lit< tt), fifth) t.sound.head;
              size = rw (fifth, retext-length s six) t.sound.size;
            };
        exact = rw (fifth, retext-length s six) t.exact;
      }

  retext-fits : {ss : List (List ℕ)} → Fits ss → Fits (map (retext f) ss)
  retext-fits end = end
  retext-fits (more {s} t g) = more (retext-fit s t) (retext-fits g)

  flatten-same : {ss : List (List ℕ)} → Fits ss → length (flatten (map (retext f) ss)) ≡ length (flatten ss)
  unfolding flatten
  flatten-same end = refl
  flatten-same (more {s} {ss} t g) =
      length-append (retext f s) (flatten (map (retext f) ss))
      ∙ rw (retext-length s (omega (arith, t.sound.size)), flatten-same g) (sym (length-append s (flatten ss)))

  module _ (r : List ℕ) (e : legend_check r ≡ Ok tt) (h : length r ≤ legend_size) where
    stored_short : length (flatten (map (retext f) (segments r))) ≤ legend_size
    unfolding segments
    stored_short =
        let k = cut-take (λ b. false) (length r) r in
        omega (arith, h, flatten-same (segments-fit r e), ap length k.1, length-take k.0 r)

    pub stored-size : length (stored_legends f r) ≡ legend_size
    unfolding stored_legends
    stored-size = length-padded legend_size (flatten (map (retext f) (segments r))) stored_short

    pub stored_back : stored_segments (stored_legends f r) ≡ map (retext f) (segments r)
    unfolding stored_legends
    stored_back = stored-fits (retext-fits (segments-fit r e)) stored_short

    pub stored_ok : legends_ok (stored_legends f r) ≡ true
    unfolding stored_legends
    stored_ok = padded-ok (retext-fits (segments-fit r e)) stored_short

-- The first fault of a record: an empty one, five bytes, six bytes with a zero before their missing text, one position too many, text that
-- is short, a second segment with a fault behind a sound one, and the widest sound one.
pub legend-table : map legend_check
    ([] ∷ (0 ∷ 0 ∷ 0 ∷ 0 ∷ 0 ∷ []) ∷ (1 ∷ 1 ∷ 0 ∷ 1 ∷ 1 ∷ 1 ∷ []) ∷ (1 ∷ 1 ∷ 1 ∷ 1 ∷ 2 ∷ line_width ∷ zeros line_width) ∷ (1 ∷ 1 ∷ 1 ∷ 1 ∷ 1 ∷ 2 ∷ 0 ∷ [])
    ∷ (1 ∷ 1 ∷ 1 ∷ 1 ∷ 1 ∷ 1 ∷ 0 ∷ 1 ∷ 1 ∷ 1 ∷ 1 ∷ 0 ∷ 1 ∷ 0 ∷ []) ∷ (0xFF ∷ 0xFF ∷ 0xFF ∷ 0xFF ∷ 1 ∷ line_width ∷ zeros line_width)
    ∷ [])
    ≡ Err SegmentEnds ∷ Err SegmentEnds ∷ Err SegmentFields ∷ Err SegmentFields ∷ Err SegmentEnds ∷ Err SegmentFields ∷ Ok tt ∷ []
unfolding legend_check segments cut bad_head flatten first_or when
legend-table = refl

-- The last segment that covers a cell shows there: a last one that covers it shows its text without a mark, one that does not leaves what the
-- segments before it show, and with none the page's cell is left.
module _ (number line position : ℕ) where
  shown-more : (gs : List Segment) (g : Segment) (c : Cell)
      → shown (gs ++ (g ∷ [])) number line position c
      ≡ cond (covers g number line position) (unruled (get_or g.text (position - g.first_position) 0)) (shown gs number line position c)
  unfolding shown
  shown-more [] g c = refl
  shown-more (h ∷ gs) g c = shown-more gs g _

  pub last-covers : (gs : List Segment) (g : Segment) (c : Cell) → covers g number line position ≡ true
      → shown (gs ++ (g ∷ [])) number line position c ≡ unruled (get_or g.text (position - g.first_position) 0)
  last-covers gs g c e = shown-more gs g c ∙ rw e

  pub last-leaves : (gs : List Segment) (g : Segment) (c : Cell) → covers g number line position ≡ false
      → shown (gs ++ (g ∷ [])) number line position c ≡ shown gs number line position c
  last-leaves gs g c e = shown-more gs g c ∙ rw e
