-- The words of what is promised about T-05 over calls: the same printer in the other way of skipping, where the two ways differ, and what a call did before.
use Rattle.std.specs.Prelude.{Bool, true, false, cond, not, List, [], ◌∷◌, length}
use Rattle.seq.specs.Words.{every}
use Rattle.numbers.specs.declared.Refusal.TheVariants.{NotListed}
use Rattle.numbers.specs.Numbers.{is_accepted}
use Rattle.movement.specs.declared.Motion.{Motion}
use Rattle.line.specs.Line.{no_causes, or_unmatched}
use Rattle.calls.specs.declared.Command.{Command}
use Rattle.calls.specs.declared.Command.TheVariants.{Write, Move, Controls, Loads, Unlisted}
use Rattle.calls.specs.declared.State.{State}
use Rattle.calls.specs.Core.{Core, World, with_state}
use Rattle.calls.specs.Commands.{Issued, decode}
use Rattle.calls.specs.Effects.{Effect, refused, done, moved_core, move_of, stands, do_write, do_load, do_control}
use Rattle.calls.specs.Calls.{Call, command, compose, release, tally, refusal_of, do_compose, do_release, do_tally, size_of, effect}

-- The same printer in the old way, or in the new; and what a call does, carried over to it.
abbrev pub with_way : State → Bool → State
with_way s old =
    record {
      fixed = record { length = s.fixed.length; pitches = s.fixed.pitches; old = old };
      blocked = s.blocked;
      forms = s.forms;
      slots = s.slots;
      copies = s.copies;
      sheet = s.sheet;
      counters = s.counters;
    }

abbrev pub in_way : Bool → Core → Core
in_way old k = with_state k (with_way k.state old)

abbrev pub world_in : Bool → World → World
world_in old w = record { core = in_way old w.core; sense = w.sense }

abbrev pub effect_in : Bool → Effect → Effect
effect_in old e = record { answer = e.answer; core = in_way old e.core; sense = e.sense; front = e.front }

-- Whether a command, or a call, is an immediate skip that stands in the new way; and whether none of a list is.
unfoldable pub command_stands : State → Command → Bool
command_stands s (Write m) = false
command_stands s (Move m) = stands (with_way s false) m
command_stands s (Controls c) = false
command_stands s (Loads l) = false
command_stands s Unlisted = false

unfoldable pub call_stands : Core → Call → Bool
call_stands k (command i) = command_stands k.state (decode i.byte)
call_stands k (compose n out) = false
call_stands k release = false
call_stands k (tally t) = false

unfoldable pub none_stands : Core → List Call → Bool
none_stands k [] = true
none_stands k (c ∷ cs) = every (not (call_stands k c) ∷ none_stands (effect k c).core cs ∷ [])

-- Before T-05 an immediate command moved as a write still does. All else is as it was.
unfoldable pub move_before : Core → Motion → Effect
move_before k m = let mv = move_of k.state m in done (moved_core false k mv) (or_unmatched no_causes mv.missed) mv

unfoldable pub command_before : Core → Command → Issued → Effect
command_before k (Write m) i = do_write k m i.sent
command_before k (Move m) i = move_before k m
command_before k (Controls c) i = do_control k c
command_before k (Loads l) i = do_load k l i.sent
command_before k Unlisted i = refused k (length i.sent) NotListed

unfoldable pub perform_before : Core → Call → Effect
perform_before k (command i) = command_before k (decode i.byte) i
perform_before k (compose n out) = do_compose k n
perform_before k release = do_release k
perform_before k (tally t) = do_tally k t

unfoldable pub effect_before : Core → Call → Effect
effect_before k c = let x = refusal_of k c in cond (is_accepted x) (perform_before k c) (refused k (size_of c) x)
