-- What the pass has found, joined with what is left, is the layout of all.
use Rattle.std.proofs.Common.{◌≡◌, suc, sym, ap, ◌∙◌, add-one, get_or, drop, drop-cons, drop_of_length-le, rules}
use Rattle.form.specs.Pass.{start}
use Rattle.form.proofs.LayoutLaws.{joined, joined-start, joined_step, joined_end}
use Rattle.form.proofs.fcb.lay_out.Goals as goal

pub loop-b-init : goal.loop-b-init
unfolding start
loop-b-init c = record {
  joined_is = let e : c.default-s.result ≡ start = search rules in rw e (joined-start _ _);
  units_most = search rules;
  top_most = search rules;
  lines_most = search rules;
}

pub loop-b-preserved : goal.loop-b-preserved
loop-b-preserved c = let f = c.args.fcb.now in
    let l = c.loop-b in
    let d = drop-cons f l.b-index 0 (search rules) in
    let e = joined_step c.args.form l.s (get_or f l.b-index 0) (drop (suc l.b-index) f) in
    record {
      joined_is = rw add-one (cc (d, e));
      units_most = search rules;
      top_most = search rules;
      lines_most = search rules;
    }

pub returns : goal.returns
returns c = let form = c.args.form in
    let l = c.loop-b in
    let none = drop_of_length-le c.args.fcb.now {i = l.b-index} (search rules) in
    sym (joined_end form l.s) ∙ ap (joined form l.s) (sym none) ∙ l.invariant.joined_is
