-- How the code goes about a text: its codes first, before anything stands in for one; then, only where one is unprintable, these are mended.
use Rattle.std.specs.Prelude.{ℕ, ◌-◌, cond, List, [], ◌∷◌, ◌++◌, map, get_or}
use Rattle.seq.specs.Words.{places_from, zeros}
use Rattle.line.specs.Line.{unprintable, stand_in}

abbrev pub codes : List ℕ → List ℕ → List ℕ
codes t r = map (λ b. get_or t b 0) r

abbrev pub mended_codes : List ℕ → List ℕ → List ℕ → List ℕ
mended_codes ps t cs = map (λ c. cond (unprintable ps c) (stand_in ps t) c) cs

abbrev pub unprintable_codes : List ℕ → List ℕ → List ℕ
unprintable_codes ps cs = places_from (unprintable ps) 1 cs

-- codes that stand in every n bytes, with 00 between them: by themselves for 1, in cells without a mark for 2
abbrev pub spaced : ℕ → List ℕ → List ℕ
spaced n [] = []
spaced n (c ∷ cs) = c ∷ (zeros (n - 1) ++ spaced n cs)
