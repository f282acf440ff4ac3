-- The words of what is promised about T-03: document 01's composed copy of codes alone, as it was before T-03.
use Rattle.std.specs.Prelude.{ℕ, suc, ◌-◌, cond, List, [], ◌∷◌, get_or}
use Rattle.legends.specs.Legends.{Segment, covers, line_of, position_of}

unfoldable pub shown_code : List Segment → ℕ → ℕ → ℕ → ℕ → ℕ
shown_code [] number line position c = c
shown_code (g ∷ gs) number line position c =
    shown_code gs number line position (cond (covers g number line position) (get_or g.text (position - g.first_position) 0) c)

unfoldable pub codes_from : List Segment → ℕ → ℕ → List ℕ → List ℕ
codes_from gs number i [] = []
codes_from gs number i (c ∷ cs) = shown_code gs number (line_of i) (position_of i) c ∷ codes_from gs number (suc i) cs
