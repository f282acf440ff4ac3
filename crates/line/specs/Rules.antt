-- The words of what is promised about T-03: when a merge sets a mark; and document 01's merge of codes alone, as it was before T-03.
use Rattle.std.specs.Prelude.{ℕ, ◌*◌, ◌-◌, Bool, cond, ◌&&◌, ◌||◌, take, drop, eqb}
use Rattle.std.proofs.Math.Option.{Option}
use mathlib.Core.List.{List, [], ◌∷◌, ◌++◌, map, zip_with}
use Rattle.seq.specs.Words.{all, when, first_or}
use Rattle.numbers.specs.Sizes.{line_width}
use Rattle.line.specs.declared.Cell.{Cell}
use Rattle.line.specs.Cells.{cells_in}
use Rattle.line.specs.Line.{is_blank, is_underscore, is_character, is_none}

-- A rule comes of a character with an underscore, either way round.
unfoldable pub makes_rule : ℕ → ℕ → Bool
makes_rule old new = (is_underscore old && is_character new) || (is_character old && is_underscore new)

-- Document 01, "Writing a line": two blanks, two underscores or equal codes keep the old; a blank and another code give that code; character and
-- underscore give the character; two other different characters collide, and keep the old.
unfoldable pub code_rules : ℕ → ℕ → List (Option ℕ)
code_rules old new =
    when ((is_blank old && is_blank new) || (is_underscore old && is_underscore new) || eqb old new) old
    ∷ when (is_blank old) new ∷ when (is_blank new) old
    ∷ when (is_underscore old) new ∷ when (is_underscore new) old
    ∷ []

unfoldable pub merge_code : ℕ → ℕ → ℕ
merge_code old new = first_or old (code_rules old new)

unfoldable pub codes_collide : ℕ → ℕ → Bool
codes_collide old new = all is_none (code_rules old new)

-- The codes of a page, a byte each, and what a write of new ones on line l made of them.
abbrev pub codes_in : List ℕ → List ℕ
codes_in p = map (λ (c : Cell). c.code) (cells_in p)

unfoldable pub codes_written : Bool → ℕ → List ℕ → List ℕ → List ℕ
codes_written later l new cs =
    let at = line_width * (l - 1) in
    let old = take line_width (drop at cs) in
    take at cs ++ (cond later (zip_with merge_code old new) new ++ drop line_width (drop at cs))
