-- Document 01, "Calls": lists of calls; and the words of the user's third demand: what of a list counts, since the latest finished reset.
use Rattle.std.specs.Prelude.{ℕ, Bool, false, cond, not, List, [], ◌∷◌, ◌++◌, map}
use Rattle.seq.specs.Words.{every, from}
use Rattle.numbers.specs.declared.Answer.{Answer}
use Rattle.numbers.specs.Numbers.{is_accepted}
use Rattle.copies.specs.Copies.{copy_count}
use Rattle.counters.specs.declared.Tally.{Tally}
use Rattle.calls.specs.declared.Command.{Command}
use Rattle.calls.specs.declared.Command.TheVariants.{Write, Move, Controls, Loads, Unlisted}
use Rattle.calls.specs.declared.State.{State}
use Rattle.calls.specs.Core.{Core, World, started}
use Rattle.calls.specs.Commands.{decode, traits_of}
use Rattle.calls.specs.Reset.{Kept, kept_of}
use Rattle.calls.specs.Calls.{Call, command, compose, release, tally, refusal_of, Copy, copy_at, effect, step}

-- Calls: what a list of calls leaves, where each gets what the one before it left.
unfoldable pub world_after : World → List Call → World
world_after w [] = w
world_after w (c ∷ cs) = world_after (step w c).world cs

-- Demand 3: what counts: accepted commands except No-Op and Sense, and accepted releases. T-02: and accepted reports, cancels and restarts.
unfoldable pub counts : Core → Call → Bool
counts k (command i) = every (is_accepted (refusal_of k (command i)) ∷ not (traits_of (decode i.byte)).quiet ∷ [])
counts k (compose n out) = false
counts k release = is_accepted (refusal_of k release)
counts k (tally t) = is_accepted (refusal_of k (tally t))

-- Demand 3: what makes two of them the same: a command's byte and its record, unless it ignores that, and not its reply buffer.
pub data Deed : Type 0 where
  commanded : ℕ → List ℕ → Deed
  was_released : Deed
  was_tallied : Tally → Deed

unfoldable pub read_of : Command → List ℕ → List ℕ
read_of (Write m) r = r
read_of (Move m) r = []
read_of (Controls c) r = []
read_of (Loads l) r = r
read_of Unlisted r = []

unfoldable pub deed_of : Call → Deed
deed_of (command i) = commanded i.byte (read_of (decode i.byte) i.sent)
deed_of (compose n out) = was_released
deed_of release = was_released
deed_of (tally t) = was_tallied t

-- Demand 3: what finishes a reset: Initialize on a page not started, or the Release that does a reset which is due.
unfoldable pub finishes_reset : Core → Call → Bool
finishes_reset k (command i) = every (counts k (command i) ∷ (traits_of (decode i.byte)).resets ∷ not (started k.state.sheet) ∷ [])
finishes_reset k (compose n out) = false
finishes_reset k release = every (counts k release ∷ k.state.sheet.due ∷ [])
finishes_reset k (tally t) = false

-- Demand 3: all copies of a page, each with its copy number and overlay mark.
unfoldable pub copies_of_page : Core → List Copy
copies_of_page k = map (copy_at k) (from 1 (copy_count k.state.copies))

-- Demand 3: what a call gave: its answer, and all copies of the page that it completed, if it did; and what each call of a list gave.
pub record Given : Type 0 where
  pub answer : Answer
  pub page : List Copy

unfoldable pub given : Core → Call → Given
given k c = let e = effect k c in record { answer = e.answer; page = cond e.answer.ready (copies_of_page e.core) [] }

unfoldable pub gives : Core → List Call → List Given
gives k [] = []
gives k (c ∷ cs) = given k c ∷ gives (effect k c).core cs

-- Demand 3: what the latest finished reset kept, and what counts since, with what each gave. The call that finishes a reset is the reset,
-- and not since it.
pub record Since : Type 0 where
  pub kept : Kept
  pub deeds : List Deed
  pub gave : List Given

unfoldable pub since_now : State → Since
since_now s = record { kept = kept_of s; deeds = []; gave = [] }

unfoldable pub note : Core → Since → Call → Since
note k s c =
    cond (finishes_reset k c) (since_now (effect k c).core.state)
    (cond (counts k c) (record { kept = s.kept; deeds = s.deeds ++ (deed_of c ∷ []); gave = s.gave ++ (given k c ∷ []) })
    s)

unfoldable pub since_over : Core → Since → List Call → Since
since_over k s [] = s
since_over k s (c ∷ cs) = since_over (effect k c).core (note k s c) cs

-- Demand 3: a start counts as a finished reset; w is a printer just started.
unfoldable pub since_reset : World → List Call → Since
since_reset w cs = since_over w.core (since_now w.core.state) cs
