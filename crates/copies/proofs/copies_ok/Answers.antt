-- Law `ok-tests`.
use Rattle.std.proofs.Common.{◌≡◌, length, rules}
use Rattle.copies.specs.Copies.{pair_size}
use Rattle.copies.proofs.JudgeLaws.{ok-tests}
use Rattle.copies.proofs.copies_ok.Goals as goal

pub returns : goal.returns
returns c = let a = c.args in
    let f = c.unwrap-pairs.result.now in
    let same : f ≡ a.pairs.now = search rules in
    let all : length f ≡ pair_size = search rules in
    rw (← same, c.total_copies-copies.ensures) (ok-tests f a.count a.reference all _ _ (search rules) c.any_loose-loose.ensures)
