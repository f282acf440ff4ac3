-- Where a code is unprintable, the segment that was looked up is mended; where none is, nothing is to be mended or told.
use mathlib.Core.Path.{◌≡◌, sym, ap, ◌∙◌}
use mathlib.Core.List.{List, ◌++◌}
use Prim.Native.Nat.{ℕ, ◌≤◌}
use lib.ListN.{length, take, drop}
use lib.Seq.{take_at, drop_at, length-take-le}
use Rattle.line.specs.Line.{translated, unprintable_at, told}
use Rattle.line.specs.Codes.{codes, mended_codes, unprintable_codes}
use Rattle.line.proofs.CellLaws.{unprintable-codes, replaced-codes, printable-none, printable-codes}
use Rattle.line.proofs.UnprintableLaws.{told-before}
use Rattle.legends.specs.Legends.{head_size, retext}
use Rattle.legends.proofs.store_segment.Goals as goal

module _ (ps t s : List ℕ) (six : head_size ≤ length s) where
  mended-segment : retext (mended_codes ps t) (retext (codes t) s) ≡ retext (translated ps t) s
  mended-segment =
      let n = length-take-le head_size s six in
      rw (take_at _ _ head_size n, drop_at _ _ head_size n) (ap (λ (r : List ℕ). take head_size s ++ r) (replaced-codes ps t (drop head_size s)))

  told-segment : unprintable_codes ps (drop head_size (retext (codes t) s)) ≡ unprintable_at ps t (drop head_size s)
  told-segment = rw (drop_at _ _ head_size (length-take-le head_size s six)) (unprintable-codes ps t (drop head_size s))

pub returns-then-look_up_segment : goal.returns-then-look_up_segment
returns-then-look_up_segment c =
    let a = c.args in
    let looked = c.look_up_segment.ensures.to in
    let six = c.requires.to_len.1 in record {
      to = rw (c.mend_segment.ensures.segment, looked) (mended-segment a.pitches a.table.now a.from.now six);
      found = λ ns h. c.mend_segment.ensures.found ns h
          ∙ rw looked (ap (λ (l : List ℕ). told (ns ++ l)) (told-segment a.pitches a.table.now a.from.now six));
    }

pub returns : goal.returns
returns c =
    let a = c.args in
    let text = drop head_size a.from.now in
    let none = sym c.look_up_segment.ensures.bad ∙ c.if-look_up_segment.false in record {
      to = c.look_up_segment.ensures.to ∙ ap (λ (r : List ℕ). take head_size a.from.now ++ r) (printable-codes a.pitches a.table.now text none);
      found = λ ns h. h ∙ told-before ns _ (ap length (printable-none a.pitches a.table.now text none));
    }
