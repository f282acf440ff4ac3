-- The count, the room, the sum, and what the scans find: law `uniform-tests`.
use Rattle.std.proofs.Common.{rules, eq-eqb, ne_eqb}
use Rattle.form.proofs.Uniform.{no-room, uniform-tests}
use Rattle.form.proofs.fcb.is_uniform.Goals as goal

pub returns-then-n-lt-EDGE_MOST : goal.returns-then-n-lt-EDGE_MOST
returns-then-n-lt-EDGE_MOST c = let a = c.args in
    let n = rw c.from-n.ensures at c.then-n-lt-EDGE_MOST.either in
    rw (no-room a.form a.count a.fcb.now (search rules) n)

pub returns-then-from-n : goal.returns-then-from-n
returns-then-from-n c = let a = c.args in
    let e = rw (c.from.ensures, c.from-n.ensures, c.from-2.ensures, c.spacing_of-k.ensures.lines, c.from-3.ensures) at c.if-from-n.true in
    rw (uniform-tests a.form a.count a.fcb.now (search rules) (search rules) (search rules) (λ k. search rules), ne_eqb _ _ e)

pub returns : goal.returns
returns c = let a = c.args in
    let e = rw (c.from.ensures, c.from-n.ensures, c.from-2.ensures, c.spacing_of-k.ensures.lines, c.from-3.ensures) at c.if-from-n.false in
    rw (uniform-tests a.form a.count a.fcb.now (search rules) (search rules) (search rules) (λ k. search rules), eq-eqb _ _ e)
    (simp (c.any_above_by.ensures, c.zero_from.ensures, c.from-n.ensures))
