-- What is left, after the lines entered and with the reports seen, is the whole space.
use Rattle.std.proofs.Common.{◌≡◌, ◌-◌, ◌≤◌, length}
use Rattle.movement.specs.Movement.{spaced}
use Rattle.movement.proofs.WalkLaws.{further}
use Rattle.movement.proofs.Place.space.Given as goal

abbrev pub invariant-loop : goal.invariant-loop
invariant-loop l = let ls = l.self.lines.now in
    record {
      whole : spaced ls l.self.line l.n ≡ further l.moved (spaced ls l.moved.line (l.n - l.moved.lines));
      entered : l.moved.lines ≡ l.counter;
      same_form : l.moved.pages ≡ 0;
      some : 1 ≤ l.moved.line;
      on : l.moved.line ≤ length ls;
    }
