-- Document 01, "Calls" and "Numbers": the calls except Start, their refusals in order, and one step.
use Rattle.std.specs.Prelude.{ℕ, ◌*◌, Bool, false, cond, not, ◌&&◌, ◌||◌, List, [], ◌∷◌, ◌++◌, length, drop, eqb, ltb}
use Rattle.std.specs.Prelude.{Ok}
use Rattle.numbers.specs.Numbers.{Checked}
use Rattle.std.proofs.Math.Option.{Option}
use Rattle.seq.specs.Words.{when, first_or, empty}
use Rattle.numbers.specs.Sizes.{line_width, line_bytes, legend_size, sense_size}
use Rattle.numbers.specs.declared.Answer.{Answer}
use Rattle.numbers.specs.declared.Sense.{Sense}
use Rattle.numbers.specs.declared.Refusal.{Refusal}
use Rattle.numbers.specs.declared.Refusal.TheVariants.{Accepted, NotListed, BadRecord, PageWaiting, PageStarted, NoPage, BadIndex, TooShort, BadStore, TwoPages, NoneBetween, MostBetween}
use Rattle.numbers.specs.declared.SenseStep.TheVariants.{Keep}
use Rattle.numbers.specs.Numbers.{sense_after, is_accepted, only, checked}
use Rattle.movement.specs.declared.Moved.{Moved}
use Rattle.movement.specs.Movement.{to_top}
use Rattle.copies.specs.Copies.{copy_count, copy_number, copy_mark}
use Rattle.legends.specs.Legends.{composed}
use Rattle.counters.specs.declared.Tally.{Tally}
use Rattle.counters.specs.Counters.{tallied, none_between, most_between, counted}
use Rattle.calls.specs.declared.Command.{Command}
use Rattle.calls.specs.declared.Command.TheVariants.{Write, Move, Controls, Loads, Unlisted}
use Rattle.calls.specs.declared.State.{State}
use Rattle.calls.specs.Core.{Core, World, with_state, with_page, with_sheet, with_counters, P, started}
use Rattle.calls.specs.Commands.{Issued, decode, control_traits, traits_of, is_unlisted, is_load}
use Rattle.calls.specs.Contents.{core_ok}
use Rattle.calls.specs.Reset.{blank_sheet, no_cells, reset}
use Rattle.calls.specs.Effects.{Effect, nothing, refused, move_of, at_once, standing, load_check, do_command}

-- Calls: a command as it is issued; Compose, with a copy index from 1 and an output buffer; Release. T-02: a report of a station, a cancel, a restart.
pub data Call : Type 0 where
  command : Issued → Call
  compose : ℕ → List ℕ → Call
  release : Call
  tally : Tally → Call

-- Numbers, 2: the records that a write and a load cannot have. Control and immediate commands ignore theirs.
abbrev pub bad_record : Command → Issued → Bool
bad_record (Write m) i = empty i.sent || ltb line_width (length i.sent)
bad_record (Move m) i = false
bad_record (Controls c) i = false
bad_record (Loads l) i = ltb legend_size (length i.sent)
bad_record Unlisted i = false

-- Numbers, 3: what a load's check finds.
unfoldable pub check_of : State → Command → Issued → Checked
check_of s (Write m) i = Ok tt
check_of s (Move m) i = Ok tt
check_of s (Controls c) i = Ok tt
check_of s (Loads l) i = load_check s l i.sent
check_of s Unlisted i = Ok tt

-- Numbers, 11: the movement that a command makes, with the pages that it completes.
unfoldable pub movement : Core → Command → Moved
movement k (Write m) = move_of k.state m
movement k (Move m) = at_once k.state m
movement k (Controls c) = cond ((control_traits c).completes && started k.state.sheet) to_top (standing k)
movement k (Loads l) = standing k
movement k Unlisted = standing k

-- Numbers: the order of Command is 9, 1, 4, 2, 5, 3, 8, 11.
abbrev pub command_tests : Core → Command → Issued → List (Option Refusal)
command_tests k c i =
    when (not (core_ok k)) BadStore
    ∷ when (is_unlisted c) NotListed
    ∷ when (k.state.sheet.waiting && not (traits_of c).quiet) PageWaiting
    ∷ when (bad_record c i) BadRecord
    ∷ when (is_load c && started k.state.sheet) PageStarted
    ∷ checked (check_of k.state c i)
    ∷ when ((traits_of c).replies && ltb (length i.reply) sense_size) TooShort
    ∷ when (ltb 1 (movement k c).pages) TwoPages
    ∷ []

-- Numbers: the order of Compose is 9, 6, 7, 8.
abbrev pub compose_tests : Core → ℕ → List ℕ → List (Option Refusal)
compose_tests k n out =
    when (not (core_ok k)) BadStore
    ∷ when (not k.state.sheet.waiting) NoPage
    ∷ when (eqb n 0 || ltb (copy_count k.state.copies) n) BadIndex
    ∷ when (ltb (length out) (line_bytes * P k.state)) TooShort
    ∷ []

-- Numbers, T-02: the order of Release is 9, 6, 13.
abbrev pub release_tests : Core → List (Option Refusal)
release_tests k =
    when (not (core_ok k)) BadStore
    ∷ when (not k.state.sheet.waiting) NoPage
    ∷ when (most_between k.state.counters) MostBetween
    ∷ []

-- T-02: the order of a report is 9, 12. Cancel and restart, to which the second test never applies, have 9 alone.
abbrev pub tally_tests : Core → Tally → List (Option Refusal)
tally_tests k t = when (not (core_ok k)) BadStore ∷ when (none_between t k.state.counters) NoneBetween ∷ []

abbrev pub tests_of : Core → Call → List (Option Refusal)
tests_of k (command i) = command_tests k (decode i.byte) i
tests_of k (compose n out) = compose_tests k n out
tests_of k release = release_tests k
tests_of k (tally t) = tally_tests k t

-- Numbers: the first test of the order that holds gives the number.
unfoldable pub refusal_of : Core → Call → Refusal
refusal_of k c = first_or Accepted (tests_of k c)

-- Copies and legends: the copy with index n of the page: its number, its overlay mark, its composed cells.
pub record Copy : Type 0 where
  pub number : ℕ
  pub mark : ℕ
  pub cells : List ℕ

unfoldable pub copy_at : Core → ℕ → Copy
copy_at k n =
    let number = copy_number k.state.copies n in
    record { number = number; mark = copy_mark k.state.copies n; cells = composed k.stores.page k.stores.legends (P k.state) number }

-- Calls: Compose answers the copy's number and mark, and writes its cells.
unfoldable pub do_compose : Core → ℕ → Effect
do_compose k n =
    let c = copy_at k n in
    record {
      answer = record { refusal = Accepted; status = 0; ready = false; lines = 0; copy = c.number; mark = c.mark; first = 0; count = 0 };
      core = k;
      sense = Keep;
      front = λ s. c.cells;
    }

-- Movement, Reset and sense: Release empties the page and, where a reset is due, does it.
unfoldable pub emptied : Core → Core
emptied k = with_page (with_state k (with_sheet k.state (blank_sheet k.state.sheet.line))) no_cells

-- T-02: it counts the page into the channel counter first.
unfoldable pub page_counted : Core → Core
page_counted k = with_state k (with_counters k.state (counted k.state.counters))

unfoldable pub released : Core → Core
released k = let c = page_counted k in cond k.state.sheet.due (reset (emptied c)) (emptied c)

unfoldable pub do_release : Core → Effect
do_release k = record { answer = only Accepted 0; core = released k; sense = Keep; front = nothing }

-- T-02: a report, a cancel, a restart: each changes the counters alone.
unfoldable pub tallying : Core → Tally → Core
tallying k t = with_state k (with_counters k.state (tallied t k.state.counters))

unfoldable pub do_tally : Core → Tally → Effect
do_tally k t = record { answer = only Accepted 0; core = tallying k t; sense = Keep; front = nothing }

-- Calls: each accepted one.
unfoldable pub perform : Core → Call → Effect
perform k (command i) = do_command k (decode i.byte) i
perform k (compose n out) = do_compose k n
perform k release = do_release k
perform k (tally t) = do_tally k t

-- Form and forms control: the byte count that the sum's load check shows.
abbrev pub size_of : Call → ℕ
size_of (command i) = length i.sent
size_of (compose n out) = 0
size_of release = 0
size_of (tally t) = 0

-- Calls, Numbers: what a call does, by the core alone.
unfoldable pub effect : Core → Call → Effect
effect k c = let x = refusal_of k c in cond (is_accepted x) (perform k c) (refused k (size_of c) x)

-- Calls: the buffer that a call is lent to write, and bytes put over its front, those after them kept.
abbrev pub lent : Call → List ℕ
lent (command i) = i.reply
lent (compose n out) = out
lent release = []
lent (tally t) = []

abbrev pub over : List ℕ → List ℕ → List ℕ
over xs buffer = xs ++ drop (length xs) buffer

-- Calls: one call, with all that it answers, writes and leaves.
pub record Outcome : Type 0 where
  pub answer : Answer
  pub buffer : List ℕ
  pub world : World

-- Calls: the outcome of an effect, by the sense and the buffer that its call finds.
abbrev pub outcome_of : Sense → List ℕ → Effect → Outcome
outcome_of s buffer e =
    record { answer = e.answer; buffer = over (e.front s) buffer; world = record { core = e.core; sense = sense_after s e.sense } }

unfoldable pub step : World → Call → Outcome
step w c = outcome_of w.sense (lent c) (effect w.core c)
