-- Document 02, T-04, "Feet of paper": the manual's sum for a transmission, over whole numbers, and the double that shows it. Every definition here is of
-- that request.
use Rattle.std.specs.Prelude.{ℕ, ◌*◌, Bool, false, not, ◌||◌, cond, eqb, ltb, pos, Float}
use Rattle.std.specs.Float.{fin, binary64}
use Rattle.std.specs.Float.Ieee.{round}
use Rattle.seq.specs.Words.{listed}
use Rattle.numbers.specs.declared.Refusal.TheVariants.{Accepted, BadPaper}
use Rattle.form.specs.Form.{form_lengths, half_inch}
use Rattle.copies.specs.Copies.{most_copies}
use Rattle.counters.specs.Counters.{between}
use Rattle.paper.specs.declared.Paper.{Paper}

-- A transmission as the office tells it: the channel identifier before and after it, the copies of each page, and the form length in our units, 24ths of
-- an inch.
pub record Sent : Type 0 where
  pub initial : ℕ
  pub final : ℕ
  pub copies : ℕ
  pub form : ℕ

abbrev pub sent : ℕ → ℕ → ℕ → ℕ → Sent
sent initial final copies form = record { initial = initial; final = final; copies = copies; form = form }

-- (Final minus initial channel identifier) times copies times form length. The difference is taken modulo 65,536.
unfoldable pub product : Sent → ℕ
product t = between t.final t.initial * t.copies * t.form

-- Over 24, says the manual, whose length is in half inches: 24 of them are a foot. Ours is in 24ths of an inch, 12 to the half inch: so a foot has 24
-- times 12, which is 288, and the feet are exactly the fraction product / 288.
abbrev pub foot_units : ℕ
foot_units = 24 * half_inch

-- The double nearest to a fraction; of two that are as near, the one with an even last digit. So divides IEEE 754. How far it can be is in Distance.
abbrev pub nearest_to : ℕ → ℕ → Float
nearest_to a b = round binary64 false a b

-- Refusal 16: an unlisted form length, or copies 0 or above 255.
unfoldable pub bad_paper : ℕ → ℕ → Bool
bad_paper copies form = not (listed form_lengths form) || (eqb copies 0 || ltb most_copies copies)

-- With 16 the feet are 0, which is +0.
abbrev pub no_feet : Float
no_feet = fin false 0 (pos 0)

abbrev pub refused_paper : Paper
refused_paper = record { refusal = BadPaper; feet = no_feet }

abbrev pub shown_paper : ℕ → Paper
shown_paper p = record { refusal = Accepted; feet = nearest_to p foot_units }

unfoldable pub paper_used : Sent → Paper
paper_used t = cond (bad_paper t.copies t.form) refused_paper (shown_paper (product t))
