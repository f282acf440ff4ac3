-- The last line looked at matches if any does, and how far on it is says whether the form was left.
use Rattle.std.proofs.Common.{rules, sym, ◌∙◌}
use Rattle.movement.specs.Movement.{still}
use Rattle.movement.proofs.WalkLaws.{looked-some, looked-most, skip-hit, skip-missed}
use Rattle.movement.proofs.Place.skip.Goals as goal

pub line_after-line-requires : goal.line_after-line-requires
line_after-line-requires c = let p = c.args.self.now in
    record {
      le_count = looked-some p.lines.now p.line c.args.channel p.on_form.on (search rules) _ c.search-count.ensures;
      count_le_last = looked-most p.lines.now p.line c.args.channel p.on_form.on (search rules) _ c.search-count.ensures;
    }

pub returns-then-channel_at-channel : goal.returns-then-channel_at-channel
unfolding still
returns-then-channel_at-channel c = let p = c.args.self.now in
    let q = sym c.channel_at.ensures ∙ c.if-channel_at-channel.true in
    let e = skip-hit p.lines.now p.line c.args.channel p.on_form.on (search rules) _ c.search-count.ensures _ c.line_after-line.ensures.value q in
    rw (c.still.ensures, c.from.ensures, c.last.ensures) e

pub returns : goal.returns
returns c = let p = c.args.self.now in
    skip-missed p.lines.now p.line c.args.channel p.on_form.on (search rules) _ c.search-count.ensures _ c.line_after-line.ensures.value
    (λ q. c.if-channel_at-channel.false (c.channel_at.ensures ∙ q))
