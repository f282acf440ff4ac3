-- A step adds a line to those entered and takes it from what is left.
use Rattle.std.proofs.Common.{rules, sym, ◌∙◌, refl}
use Rattle.movement.specs.Movement.{still}
use Rattle.movement.proofs.WalkLaws.{space-start, space-in, space-past, space-none}
use Rattle.movement.proofs.Place.space.Goals as goal

pub loop-init : goal.loop-init
unfolding still
loop-init c = let p = c.args.self.now in
    rw c.still-moved.ensures
    record { whole = space-start p.lines.now p.line c.args.n; entered = refl; same_form = refl; some = p.on_form.some; on = p.on_form.on }

pub returns-then-moved-last : goal.returns-then-moved-last
returns-then-moved-last c = let l = c.loop in
    let e = space-past c.args.self.now.lines.now c.args.n l.moved (search rules) (search rules) l.invariant.same_form in
    rw c.enter.ensures (sym (l.invariant.whole ∙ e))

pub loop-preserved : goal.loop-preserved
loop-preserved c = let l = c.loop in
    let e = space-in c.args.self.now.lines.now c.args.n l.moved (search rules) (search rules) in
    rw c.enter-moved.ensures
    record { whole = l.invariant.whole ∙ e; entered = search rules; same_form = l.invariant.same_form; some = search rules; on = search rules }

pub returns : goal.returns
returns c = sym (c.loop.invariant.whole ∙ space-none _ c.args.n c.loop.moved (search rules))
