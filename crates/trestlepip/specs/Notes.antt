-- The user's third demand in a host's words: what a host notes of its calls, from what it passes and from the packed answers. What it holds it keeps
-- unread.
use Rattle.std.specs.Prelude.{ℕ, Bool, true, false, cond, not, ◌&&◌, List, [], ◌∷◌, map, eqb}
use Rattle.seq.specs.Words.{every}
use Rattle.calls.specs.declared.Control.{Control}
use Rattle.calls.specs.declared.Control.TheVariants.{NoOp, SenseIo, Initialize, Clear, Block, Allow, Select}
use Rattle.calls.specs.declared.Command.{Command}
use Rattle.calls.specs.declared.Command.TheVariants.{Write, Move, Controls, Loads, Unlisted}
use Rattle.calls.specs.Commands.{decode, traits_of}
use Rattle.calls.specs.Reset.{Kept}
use Rattle.calls.specs.Calls.{Call, command, compose, release, tally}
use Rattle.calls.specs.Start.{start_kept}
use Rattle.calls.specs.Lists.{Deed, deed_of}
use Rattle.calls.specs.Pages.{counters_by}
use Rattle.state.specs.Host.{Called, Held, held_of, call_on}
use Rattle.trestlepip.specs.Host.{number_in, ready_in}

-- What counts: accepted commands except No-Op and Sense, and accepted releases, reports, cancels and restarts.
unfoldable pub counts_by : Call → ℕ → Bool
counts_by (command i) answer = every (eqb (number_in answer) 0 ∷ not (traits_of (decode i.byte)).quiet ∷ [])
counts_by (compose n out) answer = false
counts_by release answer = eqb (number_in answer) 0
counts_by (tally t) answer = eqb (number_in answer) 0

-- What finishes a reset: an Initialize that completed no page; or, where it completed one, so that a reset is due, the Release of that page.
unfoldable pub finishes_by : Bool → Call → ℕ → Bool
finishes_by due (command i) answer = every (counts_by (command i) answer ∷ (traits_of (decode i.byte)).resets ∷ not (ready_in answer) ∷ [])
finishes_by due (compose n out) answer = false
finishes_by due release answer = every (counts_by release answer ∷ due ∷ [])
finishes_by due (tally t) answer = false

-- Whether a reset is due after a call that counts: after an Initialize that completed a page; a report, a cancel and a restart leave it due.
unfoldable pub due_by : Bool → Call → ℕ → Bool
due_by due (command i) answer = (traits_of (decode i.byte)).resets && ready_in answer
due_by due (compose n out) answer = false
due_by due release answer = false
due_by due (tally t) answer = due

-- The data-check switch after a call that counts, which found it at b: Block and Allow set it.
unfoldable pub control_switch : Control → Bool → Bool
control_switch NoOp b = b
control_switch SenseIo b = b
control_switch Initialize b = b
control_switch Clear b = b
control_switch Block b = true
control_switch Allow b = false
control_switch (Select n) b = b

unfoldable pub command_switch : Command → Bool → Bool
command_switch (Write m) b = b
command_switch (Move m) b = b
command_switch (Controls c) b = control_switch c b
command_switch (Loads l) b = b
command_switch Unlisted b = b

unfoldable pub switch_by : Call → Bool → Bool
switch_by (command i) b = command_switch (decode i.byte) b
switch_by (compose n out) b = b
switch_by release b = b
switch_by (tally t) b = b

-- What a reset keeps, after a call that counts, which found it at k: the switch, and the page counters.
unfoldable pub kept_by : Call → Kept → Kept
kept_by c k = record { blocked = switch_by c k.blocked; counters = counters_by c k.counters }

-- A call that counts: the deed, its packed answer, and what the host holds right after it.
pub record Noted : Type 0 where
  pub deed : Deed
  pub answer : ℕ
  pub after : Held

-- The notes: what the latest finished reset kept, and the calls that count since, the latest first; what a reset would keep now, and whether one is due.
pub record Notes : Type 0 where
  pub kept : Kept
  pub calls : List Noted
  pub keeps : Kept
  pub due : Bool

abbrev pub deeds_in : List Noted → List Deed
deeds_in l = map (λ (x : Noted). x.deed) l

-- One call noted. The call that finishes a reset is the reset, and not since it.
unfoldable pub note_call : Notes → Call → Called → Notes
note_call n c k =
    let counts = counts_by c k.answer in
    let finishes = finishes_by n.due c k.answer in
    let keeps = cond counts (kept_by c n.keeps) n.keeps in
    record {
      kept = cond finishes keeps n.kept;
      calls = cond finishes [] (cond counts (record { deed = deed_of c; answer = k.answer; after = held_of k } ∷ n.calls) n.calls);
      keeps = keeps;
      due = cond counts (due_by n.due c k.answer) n.due;
    }

unfoldable pub notes_over : Held → Notes → List Call → Notes
notes_over h n [] = n
notes_over h n (c ∷ cs) = let k = call_on h c in notes_over (held_of k) (note_call n c k) cs

-- A list of calls noted, from what an accepted Start left: a start counts as a finished reset, and allows data checks.
unfoldable pub notes : Held → List Call → Notes
notes h cs = notes_over h (record { kept = start_kept; calls = []; keeps = start_kept; due = false }) cs
