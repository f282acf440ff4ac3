-- T-05: an immediate command stands or moves.
use mathlib.Core.Path.{◌≡◌}
use mathlib.Core.Bool.{true, and-true}
use Rattle.seq.proofs.Laws.{cond_has}
use Rattle.movement.specs.declared.Motion.{Motion}
use Rattle.movement.specs.declared.Moved.{Moved}
use Rattle.movement.specs.Movement.{still}
use Rattle.line.specs.Line.{no_causes, or_unmatched}
use Rattle.calls.specs.declared.State.{State}
use Rattle.calls.specs.Core.{Core}
use Rattle.calls.specs.Effects.{done, moved_sheet, move_of, stands, at_once, do_move, standing}

-- What holds of standing and of moving.
pub at-once-has : (Q : Moved → Type 0) (s : State) (m : Motion) → Q (still s.sheet.line) → Q (move_of s m) → Q (at_once s m)
unfolding at_once
at-once-has Q s m a b = cond_has Q (stands s m) (λ e. a) (λ e. b)

-- Where it stands the command does what one does that has nothing to report: line, page and every store stay as they were.
pub stood : (k : Core) (m : Motion) → stands k.state m ≡ true → do_move k m ≡ done k no_causes (standing k)
unfolding do_move at_once still moved_sheet or_unmatched no_causes
stood k m e = rw (e, and-true)
