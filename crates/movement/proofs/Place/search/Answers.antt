-- A line that does not match is one more of those looked at, one that does is the last, and none is left after P of them.
use Rattle.std.proofs.Common.{◌≡◌, ◌-◌, ◌+◌, rules, arith, sym, ◌∙◌, add-sub_cancel}
use Rattle.movement.proofs.WalkLaws.{looks, search-hit, search-miss, search-none}
use Rattle.movement.proofs.Place.search.Goals as goal
use Rattle.movement.proofs.Place.search.Goals.{Else-channel_at-channel}

pub returns-then-channel_at-channel : goal.returns-then-channel_at-channel
returns-then-channel_at-channel c = let p = c.args.self.now in
    let q = sym c.channel_at.ensures ∙ c.if-channel_at-channel.true in
    let e = search-hit p.lines.now p.line c.args.channel p.on_form.on c.loop-count.count _ (search rules) (search rules) c.line_after-line.ensures.value q in
    omega arith

miss : (c : Else-channel_at-channel) → let p = c.args.self.now in
    let looks = looks p.lines.now p.line c.args.channel in looks (c.loop-count.count - 1) ≡ 1 + looks c.loop-count.count
miss c = let p = c.args.self.now in
    search-miss p.lines.now p.line c.args.channel p.on_form.on c.loop-count.count _ (search rules) (search rules) c.line_after-line.ensures.value
    (λ q. c.if-channel_at-channel.false (c.channel_at.ensures ∙ q))

pub loop-count-preserved : goal.loop-count-preserved
loop-count-preserved c = let e = miss (goal.at.loop-count-preserved c).Else-channel_at-channel in
    simp add-sub_cancel (omega arith)

pub returns-else-channel_at-channel : goal.returns-else-channel_at-channel
returns-else-channel_at-channel c = let p = c.args.self.now in
    let e = miss (goal.at.returns-else-channel_at-channel c).Else-channel_at-channel in
    let none = search-none p.lines.now p.line c.args.channel p.on_form.on c.loop-count.count (omega arith) in
    omega arith
