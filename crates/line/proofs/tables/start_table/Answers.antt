-- Turn b sets entry b, so the first b are the starting table's.
use mathlib.Core.Path.{sym, ◌∙◌}
use borrow.Author.Rules.{rules}
use Rattle.seq.proofs.Loops.{filled_none, filled_more, filled-all}
use Rattle.line.proofs.TableLaws.{length-start_table, get_or-start_table}
use Rattle.line.proofs.tables.start_table.Goals as goal

pub loop-b-init : goal.loop-b-init
loop-b-init c = sym (filled_none _ _)

pub loop-b-preserved : goal.loop-b-preserved
loop-b-preserved c = let l = c.loop-b in
    let code = c.start_code.ensures ∙ sym (get_or-start_table l.b (search rules)) in
    filled_more _ _ _ _ _ l.invariant (rw length-start_table (search rules)) code

pub returns : goal.returns
returns c = let l = c.loop-b in l.invariant ∙ filled-all _ _ _ (rw length-start_table (search rules)) (search rules)
