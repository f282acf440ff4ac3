-- Walks over a record and over stored legends, segment by segment: what they have found, how they go on and end.
use Prim.Native.Nat.{ℕ, ◌+◌, ◌-◌, ◌≤◌, ◌<◌}
use mathlib.Core.Path.{◌≡◌, refl, sym, ap, ◌∙◌}
use mathlib.Core.Bool.{Bool, true, false, ◌&&◌, false≢true, and-true}
use mathlib.Core.List.{List, [], ◌∷◌, ◌++◌, map, append_assoc, append-nil, flatten}
use native.Mathlib.Omega.{arith}
use lib.ListN.{length, get_or, take, drop, length-append, length-take, length-drop, drop_of_length-le}
use lib.Seq.{take-take, take-add, take_at, drop_at, drop-drop, get_or-take, length-take-le}
use lib.Dec.{eqb, lit<}
use borrow.Author.Tests.{eqb-true, ne_eqb}
use Rattle.seq.specs.Words.{all, first_or, every, zeros, padded, zero_from}
use Rattle.std.specs.Prelude.{Ok}
use Rattle.seq.proofs.Laws.{and_left, passed}
use Rattle.numbers.specs.Sizes.{legend_size}
use Rattle.numbers.specs.Numbers.{is_sound}
use Rattle.numbers.proofs.Laws.{faulty}
use Rattle.line.specs.declared.Unprintables.{Unprintables}
use Rattle.line.specs.Line.{translated, unprintable_at, told}
use Rattle.line.proofs.LineLaws.{length-translated}
use Rattle.line.proofs.UnprintableLaws.{unprintable-few}
use Rattle.legends.proofs.SegmentLaws.{found, judged, rest, SoundFirst, sound-first, byte-set, tests-front, cut-take, cut-end}
use Rattle.legends.proofs.SegmentLaws.{segments-next, stored_next, judged-sound, judged-faulty, empty-or-sound}
use Rattle.legends.proofs.LegendLaws.{retext-length}
use Rattle.legends.specs.Legends.{head_size, segment_length, segment_tests, cut, segments, legend_check, retext, stored_legends, unprintable_in_texts}
use Rattle.legends.specs.Legends.{stored_segments, legends_ok}

-- Bytes that begin with the first segment of s are tested as s.
found-same : (r s : List ℕ) → take (segment_length s) r ≡ take (segment_length s) s → (segment_length r ≡ segment_length s) × (found r ≡ found s)
found-same r s e =
    let m = segment_length s in
    let x : get_or r 5 0 ≡ get_or s 5 0 =
    sym (get_or-take m r 5 0 (omega arith)) ∙ ap (λ (q : List ℕ). get_or q 5 0) e ∙ get_or-take m s 5 0 (omega arith) in
    let l : segment_length r ≡ m = ap (λ (k : ℕ). head_size + k) x in
    (l, ap (first_or (Ok tt)) (sym (tests-front r) ∙ ap (λ (k : ℕ). segment_tests (take k r)) l ∙ ap segment_tests e ∙ tests-front s))

-- Legends that do not begin with 00: their first segment, then the others.
module _ (s : List ℕ) (some : 0 < length s) (set : eqb (get_or s 0 0) 0 ≡ false) where
  flatten-next : flatten (stored_segments s) ≡ take (segment_length s) s ++ flatten (stored_segments (rest s))
  unfolding flatten
  flatten-next = ap flatten (stored_next s some set)

  stored-front : take (segment_length s) (flatten (stored_segments s)) ≡ take (segment_length s) s
  unfolding stored_segments
  stored-front =
      let m = segment_length s in
      let q = cut-take (λ b. eqb b 0) (length (rest s)) (rest s) in
      ap (take m) (flatten-next ∙ ap (λ (r : List ℕ). take m s ++ r) q.1 ∙ sym (take-add m q.0 s)) ∙ take-take m (m + q.0) s (omega arith)

  stored_same : (segment_length (flatten (stored_segments s)) ≡ segment_length s) × (found (flatten (stored_segments s)) ≡ found s)
  stored_same = found-same (flatten (stored_segments s)) s stored-front

ok-is : (s : List ℕ) → legends_ok s ≡ (is_sound (judged (flatten (stored_segments s))) && zero_from (length (flatten (stored_segments s))) s)
unfolding legends_ok every
ok-is s = rw (empty-or-sound (flatten (stored_segments s)), and-true)

pub first-set : (s : List ℕ) → SoundFirst s → eqb (get_or s 0 0) 0 ≡ false
first-set s w = ne_eqb (get_or s 0 0) 0 (λ e. omega (arith, e, byte-set s w 0 (lit< tt)))

pub ok-sound : (s : List ℕ) → is_sound (found s) ≡ true → legends_ok s ≡ legends_ok (rest s)
ok-sound s e =
    let m = segment_length s in
    let w = sound-first s e in
    let r = flatten (stored_segments s) in
    let q = flatten (stored_segments (rest s)) in
    let some : 0 < length s = omega (arith, w.size) in
    let set = first-set s w in
    let next = flatten-next s some set in
    let same = stored_same s some set in
    let front : length (take m s) ≡ m = length-take-le m s w.size in
    let back : rest r ≡ q = ap (λ (k : ℕ). drop k r) same.0 ∙ ap (drop m) next ∙ drop_at (take m s) q m front in
    let size : length r ≡ m + length q = ap length next ∙ length-append (take m s) q ∙ ap (λ (k : ℕ). k + length q) front in
    let heads : judged r ≡ judged q = judged-sound r (ap is_sound same.1 ∙ e) ∙ ap judged back in
    ok-is s ∙ rw (heads, size, ← drop-drop (length q) m s) (sym (ok-is (rest s)))

ok-faulty : (s : List ℕ) → 0 < length s → eqb (get_or s 0 0) 0 ≡ false → is_sound (found s) ≡ false → legends_ok s ≡ false
ok-faulty s some set e =
    let r = flatten (stored_segments s) in
    let same = (stored_same s some set).1 in
    let size = ap length (flatten-next s some set) ∙ length-append (take (segment_length s) s) (flatten (stored_segments (rest s))) in
    let h : 0 < length r = omega (arith, size, length-take (segment_length s) s, some) in
    ok-is s ∙ rw (ap is_sound (judged-faulty r h (ap is_sound same ∙ e) ∙ same) ∙ e)

-- Where no sound segment stands, legends are over: all that is left is 00.
pub ok_end : (s : List ℕ) → is_sound (found s) ≡ false → legends_ok s ≡ all (λ b. eqb b 0) s
unfolding legends_ok stored_segments segments cut flatten first_or every
ok_end [] e = refl
ok_end (b ∷ bs) e = go (eqb b 0) refl
  where
    go : (t : Bool) → eqb b 0 ≡ t → legends_ok (b ∷ bs) ≡ all (λ x. eqb x 0) (b ∷ bs)
    go true t =
        ok-is (b ∷ bs)
        ∙ ap (λ (ss : List (List ℕ)). is_sound (judged (flatten ss)) && zero_from (length (flatten ss)) (b ∷ bs))
        (cut-end (length (b ∷ bs)) (b ∷ bs) (eqb-true b 0 t))
    go false t = ok-faulty (b ∷ bs) (omega arith) t e ∙ rw t

-- a test that cannot fail holds
holds : (t : Bool) → (t ≡ false → ⊥) → t ≡ true
holds true n = refl
holds false n = absurd (n refl)

-- so legends that go on have a sound segment there
pub ok-front : (s : List ℕ) → legends_ok s ≡ true → (get_or s 0 0 ≡ 0 → ⊥) → is_sound (found s) ≡ true
ok-front [] e some = absurd (some refl)
ok-front (b ∷ bs) e some = holds _ (λ t. some (eqb-true b 0 (and_left (eqb b 0) _ (sym (ok_end (b ∷ bs) t) ∙ e))))

-- A record that its load takes, and is stored segment by segment: its front is sound while there is one.
judged-first : (s : List ℕ) → 0 < length s → judged s ≡ Ok tt → is_sound (found s) ≡ true
judged-first s h e = holds _ (λ t. false≢true (sym t ∙ ap is_sound (sym (judged-faulty s h t) ∙ e)))

abbrev stored : (List ℕ → List ℕ) → List ℕ → List ℕ
stored f s = flatten (map (retext f) (segments s))

-- After the segments before `at`: their bytes stand in front, their unprintable positions are told, and what is left gives the rest of both.
abbrev in_texts : List ℕ → List ℕ → List ℕ → List ℕ
in_texts ps t r = unprintable_in_texts (unprintable_at ps t) r

pub record Storing (ps t sent out : List ℕ) (bad : Unprintables) (at : ℕ) : Type 0 where
  pub room : length sent ≤ legend_size
  pub within : at ≤ length sent
  pub size : length out ≡ legend_size
  pub sound : judged (drop at sent) ≡ Ok tt
  pub cells : take at out ++ stored (translated ps t) (drop at sent) ≡ stored (translated ps t) sent
  pub places : List ℕ
  pub tells : bad ≡ told places
  pub few : length places ≤ at
  pub texts : places ++ in_texts ps t (drop at sent) ≡ in_texts ps t sent

pub storing-start : (ps t sent out : List ℕ) → length sent ≤ legend_size → length out ≡ legend_size → legend_check sent ≡ Ok tt
    → Storing ps t sent out (told []) 0
unfolding legend_check
storing-start ps t sent out r l e =
    record {
      room = r;
      within = omega arith;
      size = l;
      sound = (passed _ _ faulty e).1;
      cells = refl;
      places = [];
      tells = refl;
      few = omega arith;
      texts = refl;
    }

-- A turn: m bytes are the next segment, and it is sound.
module _ {ps t sent out : List ℕ} {bad : Unprintables} {at : ℕ} (so_far : Storing ps t sent out bad at) (more : at < length sent) where
  abbrev left : List ℕ
  left = drop at sent

  some : 0 < length left
  some = rw length-drop (omega arith)

  front : is_sound (found left) ≡ true
  front = judged-first left some so_far.sound

  next-first : SoundFirst left
  next-first = sound-first left front

  pub next-head : at + head_size ≤ length sent
  next-head = omega (arith, next-first.size, length-drop at sent)

  module _ {m : ℕ} (e : m ≡ segment_length left) where
    abbrev first : List ℕ
    first = take m left

    abbrev cells_of : List ℕ
    cells_of = retext (translated ps t) first

    pub record Next : Type 0 where
      pub head : head_size ≤ m
      pub within : at + m ≤ length sent

    pub next : Next
    next = record { head = omega (arith, e); within = omega (arith, e, next-first.size, length-drop at sent) }

    after : rest left ≡ drop (at + m) sent
    after = ap (λ (k : ℕ). drop k left) (sym e) ∙ drop-drop m at sent

    first-length : length first ≡ m
    first-length = length-take-le m left (omega (arith, e, next-first.size))

    cells-length : length cells_of ≡ m
    cells-length = retext-length (translated ps t) (length-translated ps t) first (omega (arith, e, first-length)) ∙ first-length

    segments-at : segments left ≡ first ∷ segments (drop (at + m) sent)
    segments-at = segments-next left some ∙ λ i. take (sym e i) left ∷ segments (after i)

    -- the positions told of this segment
    abbrev here : List ℕ
    here = unprintable_at ps t (drop head_size first)

    here-few : length here ≤ m
    here-few = omega (arith, unprintable-few ps t (drop head_size first), length-drop head_size first, first-length)

    pub storing-step : (ys : List ℕ) (b : Unprintables) → ys ≡ cells_of → b ≡ told (so_far.places ++ here)
        → Storing ps t sent (take at out ++ (ys ++ drop m (drop at out))) b (at + m)
    unfolding flatten unprintable_in_texts
    storing-step ys b y u =
        let q = drop m (drop at out) in
        let f = translated ps t in
        let done : length (take at out ++ cells_of) ≡ at + m =
        length-append (take at out) cells_of ∙ omega (arith, cells-length, length-take at out, so_far.size, so_far.room, next.within) in
        rw y (record {
          room = so_far.room;
          within = next.within;
          size =
              ap length (sym (append_assoc (take at out) cells_of q)) ∙ length-append (take at out ++ cells_of) q
              ∙ omega (arith, done, length-drop m (drop at out), length-drop at out, so_far.size, so_far.room, next.within);
          sound = ap judged (sym after) ∙ sym (judged-sound left front) ∙ so_far.sound;
          cells =
              ap (λ (l : List ℕ). take (at + m) l ++ stored f (drop (at + m) sent)) (sym (append_assoc (take at out) cells_of q))
              ∙ ap (λ (l : List ℕ). l ++ stored f (drop (at + m) sent)) (take_at (take at out ++ cells_of) q (at + m) done)
              ∙ append_assoc (take at out) cells_of (stored f (drop (at + m) sent))
              ∙ ap (λ (ss : List (List ℕ)). take at out ++ flatten (map (retext f) ss)) (sym segments-at)
              ∙ so_far.cells;
          places = so_far.places ++ here;
          tells = u;
          few = omega (arith, length-append so_far.places here, so_far.few, here-few);
          texts =
              append_assoc so_far.places here (in_texts ps t (drop (at + m) sent))
              ∙ ap (λ (ss : List (List ℕ)). so_far.places ++ flatten (map (λ s. unprintable_at ps t (drop head_size s)) ss)) (sym segments-at)
              ∙ so_far.texts;
        })

-- At the end, all is stored and told.
module _ {ps t sent out : List ℕ} {bad : Unprintables} {at : ℕ} (so_far : Storing ps t sent out bad at) (over : length sent ≤ at) where
  none : [] ≡ drop at sent
  none = sym (drop_of_length-le sent over)

  pub storing-cells : take (length sent) out ++ zeros (legend_size - length sent) ≡ stored_legends (translated ps t) sent
  unfolding stored_legends padded segments cut flatten
  storing-cells =
      let n = length sent in
      let f = translated ps t in
      let end : n ≡ at = omega (arith, so_far.within) in
      let cells : take n out ≡ stored f sent =
      sym (append-nil (take n out)) ∙ (λ i. take (end i) out ++ stored f (none i)) ∙ so_far.cells in
      let size : n ≡ length (stored f sent) = sym (length-take-le n out (omega (arith, so_far.size, so_far.room))) ∙ ap length cells in
      λ i. cells i ++ zeros (legend_size - size i)

  pub storing-found : bad ≡ told (in_texts ps t sent)
  unfolding unprintable_in_texts segments cut flatten
  storing-found =
      so_far.tells ∙ ap told (sym (append-nil so_far.places) ∙ ap (λ (r : List ℕ). so_far.places ++ in_texts ps t r) none ∙ so_far.texts)
