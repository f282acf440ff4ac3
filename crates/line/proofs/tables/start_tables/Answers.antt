-- The starting table over the front of zeros.
use Rattle.std.proofs.Common.{◌≡◌, ℕ, ◌++◌, length, drop, replicate, ap, ◌∙◌, rules}
use Rattle.numbers.specs.Sizes.{slot_size, table_size}
use Rattle.line.specs.Line.{start_tables}
use Rattle.line.proofs.tables.start_tables.Goals as goal

pub returns : goal.returns
unfolding start_tables
returns c = let size : length c.args.tables.now ≡ table_size = search rules in
    let rest = c.fill.ensures.after (λ y e. e) ∙ ap (λ (n : ℕ). replicate n 0) size in
    λ j. c.start_table.ensures j ++ drop slot_size (rest j)
