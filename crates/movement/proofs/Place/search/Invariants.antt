-- The lines before `count` did not match, so the lines looked at are those and what the rest of the round adds.
use Rattle.std.proofs.Common.{◌≡◌, ◌+◌, ◌-◌}
use Rattle.movement.proofs.WalkLaws.{looks}
use Rattle.movement.proofs.Place.search.Given as goal

abbrev pub invariant-loop-count : goal.invariant-loop-count
invariant-loop-count l = let looks = looks l.self.lines.now l.self.line l.channel in
    looks 0 ≡ l.count - 1 + looks (l.count - 1)
