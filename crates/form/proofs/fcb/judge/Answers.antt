-- Of one spacing, it is in range too, so that its front is what its count takes.
use Rattle.std.proofs.Common.{◌≡◌, length, take, rules, arith, ap, ◌∙◌, length-take}
use Rattle.seq.proofs.Laws.{and_right, take-least}
use Rattle.form.specs.Form.{forms_in_range, layout_of, fcb_size}
use Rattle.form.specs.Pass.{uniform}
use Rattle.form.proofs.Uniform.{room-uniform}
use Rattle.form.proofs.fcb.judge.Goals as goal

pub lay_out_uniform-requires : goal.lay_out_uniform-requires
lay_out_uniform-requires c = let n = c.args.count in
    let f = c.unwrap-fcb.result.now in
    let all : length f ≡ fcb_size = search rules in
    let t : take c.min.result f ≡ take n f = rw (c.min.ensures, c.from-n.ensures, ← all) (take-least n f) in
    let u = and_right (forms_in_range (record { fcb = f; count = n })) (uniform c.args.form (take n f)) (search rules) in
    rw t (record { edge_most_in_bounds = room-uniform _ _ u; fcb_len_bound = omega (arith, length-take n f); fcb_value = u })

pub returns-clause-layout : goal.returns-clause-layout
returns-clause-layout c = let n = c.args.count in
    let f = c.unwrap-fcb.result.now in
    let all : length f ≡ fcb_size = search rules in
    let same : f ≡ c.args.fcb.now = search rules in
    let t : take c.min.result f ≡ take n f = rw (c.min.ensures, c.from-n.ensures, ← all) (take-least n f) in
    c.lay_out_uniform.ensures ∙ ap (layout_of c.args.form) (t ∙ ap (take n) same)
