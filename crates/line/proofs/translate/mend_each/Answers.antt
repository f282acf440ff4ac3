-- Turn i mends code i, so the first i codes are mended, and the places of the unprintable ones among them are told.
use Rattle.std.proofs.Common.{◌≡◌, ◌+◌, ◌*◌, ◌<◌, ◌≤◌, ℕ, cond, List, map, length, get_or, set, refl, sym, ap, ◌∙◌, rules, arith}
use lib.ListN.{length-map}
use Rattle.seq.proofs.Loops.{filled, filled_none, filled-all, get_or-map}
use Rattle.line.specs.declared.Unprintables.{Unprintables}
use Rattle.line.specs.Line.{unprintable}
use Rattle.line.specs.Codes.{spaced}
use Rattle.line.proofs.SpacedLaws.{count-spaced, spaced-old, spaced_more}
use Rattle.line.proofs.UnprintableLaws.{telling-none, telling-with, telling-past, telling-all}
use Rattle.line.proofs.translate.mend_each.Goals.{then-mend_at, else-mend_at}
use Rattle.line.proofs.translate.mend_each.Goals as goal

pub loop-i-init : goal.loop-i-init
loop-i-init g c = record {
  few = omega arith;
  cells = λ cs p. p ∙ ap (spaced g.row.STRIDE) (sym (filled_none _ cs));
  told = λ cs p. telling-none _ cs;
}

pub loop-i-preserved : goal.loop-i-preserved
loop-i-preserved g c = let l = c.loop-i in
    let n = g.row.STRIDE in
    let some : 1 ≤ n = search rules in
    let ps = c.args.pitches in
    let other = c.args.other in
    let f : ℕ → ℕ = λ x. cond (unprintable ps x) other x in
    let here : (cs : List ℕ) → c.args.cells.now ≡ spaced n cs → l.i < length cs = λ cs p. omega (arith, count-spaced n some cs p) in
    let read : (cs : List ℕ) → c.args.cells.now ≡ spaced n cs → get_or l.cells (n * l.i) 0 ≡ get_or cs l.i 0 =
    λ cs p. spaced-old n some l.i (map f cs) cs l.cells (l.invariant.cells cs p) in
    let found : (cs : List ℕ) → c.args.cells.now ≡ spaced n cs → unprintable ps (get_or cs l.i 0) ≡ c.mend_at.result =
    λ cs p. ap (unprintable ps) (sym (read cs p)) ∙ sym c.mend_at.ensures.bad in
    let mended : (cs : List ℕ) → c.args.cells.now ≡ spaced n cs → set l.cells (n * l.i) (f (get_or l.cells (n * l.i) 0)) ≡ spaced n (filled (l.i + 1) (map f cs) cs) =
    λ cs p. spaced_more n some l.i _ (map f cs) cs l.cells (l.invariant.cells cs p) (omega (arith, here cs p, length-map cs f))
    (ap f (read cs p) ∙ sym (get_or-map f 0 0 l.i cs (here cs p))) in
    elim c.if-mend_at.branch [
      | then-mend_at w ↦ record {
        few = omega (arith, w.with-told.ensures.count, ap (λ (u : Unprintables). u.count) w.told-is);
        cells = λ cs p. c.mend_at.ensures.cells ∙ mended cs p;
        told = λ cs p. let t = l.invariant.told cs p in
            telling-with _ cs (here cs p) t (found cs p ∙ w.if-mend_at.true) (w.told-is ∙ w.with-told.ensures.told _ t.are);
      }
      | else-mend_at w ↦ record {
        few = omega (arith, ap (λ (u : Unprintables). u.count) w.told-is);
        cells = λ cs p. c.mend_at.ensures.cells ∙ mended cs p;
        told = λ cs p. telling-past _ cs (here cs p) (l.invariant.told cs p) (found cs p ∙ w.if-mend_at.false) w.told-is;
      }
    ]

pub returns : goal.returns
returns g c = let l = c.loop-i in
    let n = g.row.STRIDE in
    let end : (cs : List ℕ) → c.args.cells.now ≡ spaced n cs → length cs ≤ l.i = λ cs p. omega (arith, count-spaced n (search rules) cs p) in
    record {
      cells = λ cs p. l.invariant.cells cs p ∙ ap (spaced n) (filled-all l.i _ cs (rw length-map refl) (end cs p));
      found = λ cs p. telling-all _ cs (end cs p) (l.invariant.told cs p);
    }
