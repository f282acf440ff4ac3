-- Document 01, "Movement": the lines that a space enters and a skip looks at, and what is reported of them. Every definition here is of
-- that section, except T-05's `is_there`.
use Rattle.std.specs.Prelude.{ℕ, zero, suc, ◌+◌, ◌-◌, ◌≤◌, Bool, false, cond, not, ◌||◌, List, [], ◌∷◌, ◌++◌, map, length, eqb, ltb}
use Rattle.seq.specs.Words.{any, last_or, from}
use Rattle.movement.specs.declared.Motion.{Motion}
use Rattle.movement.specs.declared.Motion.TheVariants.{Space, Skip}
use Rattle.movement.specs.declared.Moved.{Moved}
use Rattle.numbers.specs.Sizes.{page_lines}
use Rattle.form.specs.Form.{channel_at}

-- The current line is one of the form's; ls are the bytes of the printable lines, as many as a page has at most.
pub record OnForm (ls : List ℕ) (line : ℕ) : Type 0 where
  pub some : 1 ≤ line
  pub on : line ≤ length ls
  pub few : length ls ≤ page_lines

-- A line of this form, or of a form so many forms on: each form on is a page completed.
pub record Spot : Type 0 where
  pub form : ℕ
  pub line : ℕ

abbrev pub spot : ℕ → ℕ → Spot
spot f l = record { form = f; line = l }

-- The lines that spacing n from line c enters, one at a time; the step past P enters line 1 of the next form and is the last.
unfoldable pub entered : ℕ → ℕ → ℕ → List Spot
entered P c zero = []
entered P c (suc n) = let further = entered P (suc c) n in cond (ltb c P) (spot 0 (suc c) ∷ further) (spot 1 1 ∷ [])

-- The lines that a skip from line c looks at, as long as none matches: those after c to P, then those of the next form from 1 up to c.
unfoldable pub round : ℕ → ℕ → List Spot
round P c = map (spot 0) (from (c + 1) (P - c)) ++ map (spot 1) (from 1 c)

-- A walk up to its first line that matches, with that line.
unfoldable pub up_to_first : (Spot → Bool) → List Spot → List Spot
up_to_first f [] = []
up_to_first f (s ∷ ss) = s ∷ cond (f s) [] (up_to_first f ss)

-- Whether a line has the channel; ls are the bytes of the printable lines.
abbrev pub has : List ℕ → ℕ → Spot → Bool
has ls channel s = eqb (channel_at ls s.line) channel

-- A movement that enters one line more, and what is reported of it.
abbrev pub entering : List ℕ → Moved → ℕ → Moved
entering ls m line =
    let nine = m.nine || eqb (channel_at ls line) 9 in
    let twelve = m.twelve || eqb (channel_at ls line) 12 in
    record { lines = m.lines + 1; pages = m.pages; line = line; nine = nine; twelve = twelve; missed = m.missed }

-- Spacing: its lines moved are those entered; channels 9 and 12 are reported of every one, line 1 of the next form too (house).
unfoldable pub spaced : List ℕ → ℕ → ℕ → Moved
spaced ls c n =
    let w = entered (length ls) c n in
    let to = last_or (spot 0 c) w in
    record { lines = length w; pages = to.form; line = to.line; nine = any (has ls 9) w; twelve = any (has ls 12) w; missed = false }

-- Skipping: its lines moved are those looked at, the match among them. Without one the page is completed and line 1 taken. A skip reports
-- neither 9 nor 12, and an immediate one that moves is no different (house).
unfoldable pub skipped : List ℕ → ℕ → ℕ → Moved
skipped ls c channel =
    let r = round (length ls) c in
    let w = up_to_first (has ls channel) r in
    let found = any (has ls channel) r in
    let to = cond found (last_or (spot 0 c) w) (spot 1 1) in
    record { lines = length w; pages = to.form; line = to.line; nine = false; twelve = false; missed = not found }

-- Either motion.
unfoldable pub moved : List ℕ → ℕ → Motion → Moved
moved ls c (Space n) = spaced ls c n
moved ls c (Skip channel) = skipped ls c channel

-- T-05: a skip leads to where the form is already if the current line has its channel.
unfoldable pub is_there : List ℕ → ℕ → Motion → Bool
is_there ls c (Space n) = false
is_there ls c (Skip channel) = has ls channel (spot 0 c)

-- No movement; and what Clear makes of a started page: it is completed, with the form at line 1 of the next.
unfoldable pub still : ℕ → Moved
still c = record { lines = 0; pages = 0; line = c; nine = false; twelve = false; missed = false }

unfoldable pub to_top : Moved
to_top = record { lines = 0; pages = 1; line = 1; nine = false; twelve = false; missed = false }
