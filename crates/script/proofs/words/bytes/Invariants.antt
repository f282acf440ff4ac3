-- What has been put fits the room.
use Rattle.std.proofs.Common.{◌≤◌, length}
use Rattle.script.proofs.words.bytes.Given as goal

abbrev pub invariant-loop-word : goal.invariant-loop-word
invariant-loop-word l = record {
  can_next : (goal.iterator-loop-word).can_next l.word-iterator;
  is_finite : (goal.iterator-loop-word).is_finite l.word-iterator;
  fits : l.end ≤ length l.room;
}
