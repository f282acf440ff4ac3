-- The unprintable positions of a record's texts: none is past the end of a line, and there are no more than the record has bytes.
use Prim.Native.Nat.{ℕ, zero, suc, ◌≤◌}
use mathlib.Core.Path.{◌≡◌, refl}
use mathlib.Core.Bool.{false, true}
use mathlib.Core.List.{List, [], ◌∷◌, map, flatten}
use native.Mathlib.Omega.{arith}
use lib.ListN.{length, drop, take, length-append, length-take, length-drop}
use lib.Dec.{lit<}
use Rattle.seq.proofs.Laws.{all_append}
use Rattle.std.specs.Prelude.{Ok}
use Rattle.line.specs.Line.{unprintable_at}
use Rattle.line.proofs.UnprintableLaws.{positions, unprintable-positions, unprintable-few}
use Rattle.legends.specs.Legends.{head_size, segment_length, cut, segments, legend_check, unprintable_in_texts}
use Rattle.legends.proofs.SegmentLaws.{rest, byte-set, ends-in-line}
use Rattle.legends.proofs.LegendLaws.{Fit, Fits, end, more, segments-fit}

module _ (ps t : List ℕ) where
  abbrev in_text : List ℕ → List ℕ
  in_text s = unprintable_at ps t (drop head_size s)

  -- a text goes no further than a line does
  fit-positions : (s : List ℕ) → Fit s → positions (in_text s) ≡ true
  fit-positions s f =
      unprintable-positions ps t (drop head_size s)
      (omega (arith, length-drop head_size s, f.exact, ends-in-line s f.sound, byte-set s f.sound 4 (lit< tt)))

  all-positions : {ss : List (List ℕ)} → Fits ss → positions (flatten (map in_text ss)) ≡ true
  unfolding flatten
  all-positions end = refl
  all-positions (more {s} f fs) = all_append _ (in_text s) _ (fit-positions s f) (all-positions fs)

  pub texts-positions : (r : List ℕ) → legend_check r ≡ Ok tt → positions (unprintable_in_texts (unprintable_at ps t) r) ≡ true
  unfolding unprintable_in_texts
  texts-positions r e = all-positions (segments-fit r e)

  cut-few : (n : ℕ) (s : List ℕ) → length (flatten (map in_text (cut (λ b. false) n s))) ≤ length s
  unfolding cut flatten
  cut-few zero s = omega arith
  cut-few (suc n) [] = omega arith
  cut-few (suc n) (b ∷ bs) =
      let s = b ∷ bs in
      let m = segment_length s in
      let first = take m s in
      let few = unprintable-few ps t (drop head_size first) in
      rw length-append (omega (arith, few, length-drop head_size first, length-take m s, length-drop m s, cut-few n (rest s)))

  pub texts-few : (r : List ℕ) → length (unprintable_in_texts (unprintable_at ps t) r) ≤ length r
  unfolding unprintable_in_texts segments
  texts-few r = cut-few (length r) r
