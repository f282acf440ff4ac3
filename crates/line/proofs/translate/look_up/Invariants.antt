-- After so many turns of 12 bytes, their codes are the record's, and the next turn adds its own.
use Rattle.std.proofs.Common.{◌*◌}
use Rattle.line.proofs.SpacedLaws.{Laid, Seen}
use Rattle.line.proofs.translate.look_up.Given as goal

abbrev pub invariant-loop-turn : goal.invariant-loop-turn
invariant-loop-turn g l = record {
  seen : Seen l.table l.sent (12 * l.turn) l.seen;
  cells : Laid g.row.STRIDE l.table l.sent (12 * l.turn) l.initial.cells l.cells;
}
