-- What is promised about T-03: the mark of a merged cell, its code, and that writing leaves no mark but 0 and 1.
use Prim.Native.Nat.{ℕ, zero, suc, ◌+◌, ◌*◌, ◌-◌, ◌/◌, ◌%◌, ◌≤◌, ◌<◌}
use mathlib.Core.Path.{◌≡◌, refl, sym, ap, ◌∙◌}
use mathlib.Core.Bool.{Bool, true, false, cond, not, ◌&&◌, ◌||◌, true≢false}
use mathlib.Core.Option.{Option}
use mathlib.Core.List.{List, [], ◌∷◌, ◌++◌, map, map-append, zip_with}
use native.Mathlib.Omega.{arith}
use lib.ListN.{length, get_or, take, drop, replicate}
use lib.Seq.{get_or-take, get_or-drop}
use lib.Dec.{eqb, ltb}
use borrow.Author.Tests.{eqb-true, eqb-false, ltb-true, ltb-false}
use Rattle.seq.specs.Words.{any, all, when, first_or}
use Rattle.seq.proofs.Laws.{or_left, or_right, map-take, map-drop}
use Rattle.seq.proofs.Loops.{any_append, any-take, any-drop, get_or-map, get_or-zip_with}
use Rattle.seq.proofs.Put.{put, put-before, put_in, put-after}
use Rattle.numbers.specs.Sizes.{cell_bytes, line_width, line_bytes}
use Rattle.line.specs.declared.Cell.{Cell}
use Rattle.line.specs.Cells.{unruled, ruled, stored, cells_in, marks_ok}
use Rattle.line.specs.Scan.{bad_mark}
use Rattle.line.specs.Line.{is_blank, is_underscore, merge_rules, merge_cell, is_none, collides, merge_line, cells_after, line_at, put_line, page_written}
use Rattle.line.specs.Rules.{makes_rule, code_rules, merge_code, codes_collide, codes_in, codes_written}
use Rattle.line.proofs.StoredLaws.{length-cells, cells-put}
use Rattle.line.proofs.MarkLaws.{marks-by-cells, cells-part}
use Rattle.line.proofs.CellLaws.{merge-by-tests}
use Rattle.line.proofs.LineLaws.{length-line_at, length-cells_after}

-- A merge sets the mark where a character meets an underscore, and else keeps it.
pub merged-mark : (old : Cell) (new : ℕ) → (merge_cell old new).mark ≡ cond (makes_rule old.code new) 1 old.mark
unfolding makes_rule
merged-mark old new = sym (ap (λ (c : Cell). c.mark) (merge-by-tests old new))

-- Its code and whether it collides are those of document 01's merge of codes.
module _ (old : Cell) (new : ℕ) where
  abbrev cell_rules : Bool → Bool → Bool → Bool → Bool → List (Option Cell)
  cell_rules same bo bn uo un =
      when same old ∷ when bo (record { code = new; mark = old.mark }) ∷ when bn old ∷ when uo (ruled new) ∷ when un (ruled old.code) ∷ []

  abbrev base_rules : Bool → Bool → Bool → Bool → Bool → List (Option ℕ)
  base_rules same bo bn uo un = when same old.code ∷ when bo new ∷ when bn old.code ∷ when uo new ∷ when un old.code ∷ []

  same-rules : (same bo bn uo un : Bool)
      → ((first_or old (cell_rules same bo bn uo un)).code ≡ first_or old.code (base_rules same bo bn uo un))
      × (all is_none (cell_rules same bo bn uo un) ≡ all is_none (base_rules same bo bn uo un))
  unfolding first_or when
  same-rules true bo bn uo un = (refl, refl)
  same-rules false true bn uo un = (refl, refl)
  same-rules false false true uo un = (refl, refl)
  same-rules false false false true un = (refl, refl)
  same-rules false false false false true = (refl, refl)
  same-rules false false false false false = (refl, refl)

  merged : ((merge_cell old new).code ≡ merge_code old.code new) × (collides old new ≡ codes_collide old.code new)
  unfolding merge_cell merge_code collides codes_collide merge_rules code_rules
  merged =
      let c = old.code in
      same-rules ((is_blank c && is_blank new) || (is_underscore c && is_underscore new) || eqb c new) (is_blank c) (is_blank new) (is_underscore c) (is_underscore new)

  pub merged-code : (merge_cell old new).code ≡ merge_code old.code new
  merged-code = merged.0

  pub merged-clash : collides old new ≡ codes_collide old.code new
  merged-clash = merged.1

abbrev pub code : Cell → ℕ
code c = c.code

-- So the codes of a page are what document 01 makes of them, and the mark is all that T-03 adds.
codes-after : (later : Bool) (old : List Cell) (new : List ℕ)
    → map code (cells_after later old new) ≡ cond later (zip_with merge_code (map code old) new) new
unfolding cells_after merge_line zip_with
codes-after true old new = merged old new
  where
    merged : (old : List Cell) (new : List ℕ) → map code (zip_with merge_cell old new) ≡ zip_with merge_code (map code old) new
    merged [] new = refl
    merged (c ∷ old) [] = refl
    merged (c ∷ old) (n ∷ new) = λ i. merged-code c n i ∷ merged old new i
codes-after false old new = set new
  where
    set : (new : List ℕ) → map code (map unruled new) ≡ new
    set [] = refl
    set (n ∷ new) = ap (λ (l : List ℕ). n ∷ l) (set new)

-- No mark but 0 and 1.
merged-good : (old : Cell) (new : ℕ) → bad_mark old ≡ false → bad_mark (merge_cell old new) ≡ false
merged-good old new e = ap (ltb 1) (merged-mark old new) ∙ go (makes_rule old.code new)
  where
    go : (t : Bool) → ltb 1 (cond t 1 old.mark) ≡ false
    go true = refl
    go false = e

line-good : (later : Bool) (old : List Cell) (new : List ℕ) → any bad_mark old ≡ false → any bad_mark (cells_after later old new) ≡ false
unfolding cells_after merge_line zip_with
line-good true old new e = merged old new e
  where
    merged : (old : List Cell) (new : List ℕ) → any bad_mark old ≡ false → any bad_mark (zip_with merge_cell old new) ≡ false
    merged [] new e = refl
    merged (c ∷ old) [] e = refl
    merged (c ∷ old) (n ∷ new) e =
        λ i. merged-good c n (or_left (bad_mark c) (any bad_mark old) e) i || merged old new (or_right (bad_mark c) (any bad_mark old) e) i
line-good false old new e = unmarked new
  where
    unmarked : (new : List ℕ) → any bad_mark (map unruled new) ≡ false
    unmarked [] = refl
    unmarked (n ∷ new) = unmarked new

-- A page with a line's cells set, among its cells.
module _ (l : ℕ) (p : List ℕ) (first : 1 ≤ l) (inside : line_bytes * l ≤ length p) (cs : List Cell) (size : length cs ≡ line_width) where
  cells-put_line : cells_in (put_line l cs p) ≡ put (line_width * (l - 1)) cs (cells_in p)
  unfolding put_line
  cells-put_line =
      let at : line_bytes * (l - 1) ≡ cell_bytes * (line_width * (l - 1)) = omega arith in
      let wide : line_bytes ≡ cell_bytes * length cs = rw size refl in
      (λ i. cells_in (take (at i) p ++ (stored cs ++ drop (wide i) (drop (at i) p)))) ∙ cells-put (line_width * (l - 1)) cs p (omega arith)

-- Line l of a page, among the page's cells.
line-cells : (l : ℕ) (p : List ℕ) → line_at l p ≡ take line_width (drop (line_width * (l - 1)) (cells_in p))
unfolding line_at
line-cells l p =
    let at : line_bytes * (l - 1) ≡ cell_bytes * (line_width * (l - 1)) = omega arith in
    (λ i. cells_in (take line_bytes (drop (at i) p))) ∙ cells-part (line_width * (l - 1)) line_width p

module _ (later : Bool) (l : ℕ) (new p : List ℕ) (first : 1 ≤ l) (inside : line_bytes * l ≤ length p) (size : length new ≡ line_width) where
  abbrev after : List Cell
  after = cells_after later (line_at l p) new

  after-size : length after ≡ line_width
  after-size = length-cells_after later (line_at l p) new (length-line_at l p first inside ∙ sym size) ∙ size

  cells-written : cells_in (page_written later l new p) ≡ put (line_width * (l - 1)) after (cells_in p)
  unfolding page_written
  cells-written = cells-put_line l p first inside after after-size

  pub codes-written : codes_in (page_written later l new p) ≡ codes_written later l new (codes_in p)
  unfolding codes_written
  codes-written =
      let at = line_width * (l - 1) in
      let part : map code (drop at (cells_in p)) ≡ drop at (codes_in p) = map-drop code at (cells_in p) in
      let old : map code (line_at l p) ≡ take line_width (drop at (codes_in p)) =
      ap (map code) (line-cells l p) ∙ map-take code line_width (drop at (cells_in p)) ∙ ap (take line_width) part in
      let line = codes-after later (line_at l p) new ∙ (λ i. cond later (zip_with merge_code (old i) new) new) in
      let behind = drop (length after) (drop at (cells_in p)) in
      let rest = map-drop code (length after) (drop at (cells_in p)) ∙ (λ i. drop (after-size i) (part i)) in
      ap (map code) cells-written ∙ map-append code (take at (cells_in p)) _
      ∙ (λ i. map-take code at (cells_in p) i ++ map-append code after behind i)
      ∙ (λ i. take at (codes_in p) ++ (line i ++ rest i))

  -- Cell n after it: on line l, what the write made of the old cell and the new code; elsewhere the old cell.
  abbrev cell_at : ℕ → Cell
  cell_at n = get_or (cells_in p) n (unruled 0)

  abbrev made_at : ℕ → Cell
  made_at n = let c = get_or new (n % line_width) 0 in cond later (merge_cell (cell_at n) c) (unruled c)

  made : (n : ℕ) → n / line_width + 1 ≡ l → get_or after (n % line_width) (unruled 0) ≡ made_at n
  unfolding cells_after merge_line
  made n e = go later refl
    where
      j : ℕ
      j = n % line_width

      place : j < length new
      place = omega (arith, size)

      at : line_width * (l - 1) + j ≡ n
      at = omega (arith, e)

      old : get_or (line_at l p) j (unruled 0) ≡ cell_at n
      old =
          ap (λ (cs : List Cell). get_or cs j (unruled 0)) (line-cells l p) ∙ get_or-take line_width (drop (line_width * (l - 1)) (cells_in p)) j (unruled 0) (omega arith)
          ∙ get_or-drop (line_width * (l - 1)) (cells_in p) j (unruled 0) ∙ ap cell_at at

      go : (t : Bool) → later ≡ t
          → get_or (cond t (zip_with merge_cell (line_at l p) new) (map unruled new)) j (unruled 0) ≡ cond t (merge_cell (cell_at n) (get_or new j 0)) (unruled (get_or new j 0))
      go true t =
          get_or-zip_with merge_cell (unruled 0) 0 (unruled 0) j (line_at l p) new (omega (arith, length-line_at l p first inside)) place
          ∙ ap (λ (c : Cell). merge_cell c (get_or new j 0)) old
      go false t = get_or-map unruled 0 (unruled 0) j new place

  pub cell-written : (n : ℕ) → get_or (cells_in (page_written later l new p)) n (unruled 0) ≡ cond (eqb (n / line_width + 1) l) (made_at n) (cell_at n)
  cell-written n = ap (λ (cs : List Cell). get_or cs n (unruled 0)) cells-written ∙ go (eqb (n / line_width + 1) l) (ltb n before) refl refl
    where
      before : ℕ
      before = line_width * (l - 1)

      room : before + length after ≤ length (cells_in p)
      room = omega (arith, after-size, length-cells p, inside, first)

      go : (t u : Bool) → eqb (n / line_width + 1) l ≡ t → ltb n before ≡ u → get_or (put before after (cells_in p)) n (unruled 0) ≡ cond t (made_at n) (cell_at n)
      go true u e x =
          let on : n / line_width + 1 ≡ l = eqb-true _ _ e in
          let here : n - before ≡ n % line_width = omega (arith, on) in
          put_in (unruled 0) before after (cells_in p) room n (omega (arith, on)) (omega (arith, on, after-size))
          ∙ ap (λ (j : ℕ). get_or after j (unruled 0)) here ∙ made n on
      go false true e x = put-before (unruled 0) before after (cells_in p) room n (ltb-true n before x)
      go false false e x =
          put-after (unruled 0) before after (cells_in p) room n (omega (arith, eqb-false (n / line_width + 1) l e, ltb-false n before x, after-size))

none-bad : (p : List ℕ) → marks_ok p ≡ true → any bad_mark (cells_in p) ≡ false
none-bad p e = go (any bad_mark (cells_in p)) (sym (marks-by-cells p) ∙ e)
  where
    go : (t : Bool) → not t ≡ true → t ≡ false
    go true e = absurd (true≢false (sym e))
    go false e = refl

pub marks-written : (later : Bool) (l : ℕ) (new p : List ℕ) → 1 ≤ l → line_bytes * l ≤ length p → length new ≡ line_width → marks_ok p ≡ true
    → marks_ok (page_written later l new p) ≡ true
marks-written later l new p first inside size e =
    let none = none-bad p e in
    let at = line_width * (l - 1) in
    let after = drop at (cells_in p) in
    let wide = length (cells_after later (line_at l p) new) in
    let rest = any-drop bad_mark at (cells_in p) none in
    let good = line-good later (line_at l p) new (ap (any bad_mark) (line-cells l p) ∙ any-take bad_mark line_width after rest) in
    marks-by-cells (page_written later l new p)
    ∙ ap not
    (ap (any bad_mark) (cells-written later l new p first inside size) ∙ any_append bad_mark (take at (cells_in p)) _
    ∙ (λ i. any-take bad_mark at (cells_in p) none i || any_append bad_mark (cells_after later (line_at l p) new) (drop wide after) i)
    ∙ (λ i. good i || any-drop bad_mark wide after rest i))

pub marks-none : (n : ℕ) → marks_ok (replicate n 0) ≡ true
unfolding marks_ok
marks-none zero = refl
marks-none (suc zero) = refl
marks-none (suc (suc n)) = marks-none n

-- A page of 00 has no mark in any cell.
pub cells-none : (m n : ℕ) → get_or (cells_in (replicate m 0)) n (unruled 0) ≡ unruled 0
unfolding cells_in
cells-none zero n = refl
cells-none (suc zero) n = refl
cells-none (suc (suc m)) zero = refl
cells-none (suc (suc m)) (suc n) = cells-none m n
