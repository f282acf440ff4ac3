-- Turn i writes code i, so the first i codes are the record's, and what is put together is above FF where one of these is FF.
use Rattle.std.proofs.Common.{◌≡◌, ◌+◌, ◌<◌, ◌||◌, length, get_or, ltb, refl, sym, ap, ◌∙◌, rules, arith}
use lib.ListN.{length-map}
use Rattle.seq.proofs.Loops.{filled_none, filled-all, any-more, any-all, get_or-map}
use Rattle.line.specs.Codes.{codes, spaced}
use Rattle.line.proofs.MarkLaws.{same-ltb, or-reaches}
use Rattle.line.proofs.SpacedLaws.{spaced_more}
use Rattle.line.proofs.translate.look_up_each.Goals as goal

pub loop-i-init : goal.loop-i-init
loop-i-init g c = record { seen = refl; cells = λ cs e p. p ∙ ap (spaced g.row.STRIDE) (sym (filled_none _ cs)) }

pub loop-i-preserved : goal.loop-i-preserved
loop-i-preserved g c = let l = c.loop-i in
    let t = c.args.table.now in
    let r = c.args.sent.now in
    let here : l.i < length (codes t r) = rw length-map (search rules) in
    let code : c.entry-code.result ≡ get_or (codes t r) l.i 0 =
    c.entry-code.ensures ∙ sym (get_or-map (λ b. get_or t b 0) 0 0 l.i r (search rules)) in
    let top : ltb 0xFF (c.from.result + 1) ≡ ltb 0xFE (get_or (codes t r) l.i 0) =
    same-ltb 0xFF (c.from.result + 1) 0xFE c.entry-code.result (λ h. omega arith) (λ h. omega arith) ∙ ap (ltb 0xFE) code in
    record {
      seen = or-reaches 8 0xFF l.seen (c.from.result + 1) refl ∙ (λ j. l.invariant.seen j || top j) ∙ any-more (ltb 0xFE) 0 l.i (codes t r) here;
      cells = λ cs e p. spaced_more g.row.STRIDE (search rules) l.i _ (codes t r) cs l.cells (l.invariant.cells cs e p) here code;
    }

pub returns : goal.returns
returns g c = let l = c.loop-i in
    let goal = codes c.args.table.now c.args.sent.now in
    record {
      cells = λ cs e p. l.invariant.cells cs e p ∙ ap (spaced g.row.STRIDE) (filled-all l.i goal cs (rw length-map (sym e)) (search rules));
      seen = l.invariant.seen ∙ any-all (ltb 0xFE) l.i goal (rw length-map (search rules));
    }
