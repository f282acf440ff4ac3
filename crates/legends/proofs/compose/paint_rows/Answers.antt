-- Each turn paints the text into one row more.
use mathlib.Core.Path.{◌≡◌, refl, ◌∙◌}
use Prim.Native.Nat.{◌-◌}
use native.Mathlib.Nat.{add-sub_cancel_left}
use native.Mathlib.Omega.{arith}
use Rattle.legends.proofs.ComposeLaws.{rows_none, rows-put}
use Rattle.legends.proofs.compose.paint_rows.Goals as goal

pub loop-row-init : goal.loop-row-init
loop-row-init c = record { within = omega arith; painted = rows_none c.args.text.now _ _ _ _ (omega arith) }

pub loop-row-preserved : goal.loop-row-preserved
loop-row-preserved c =
    let a = c.args in
    let l = c.loop-row in record {
      within = omega arith;
      painted = simp add-sub_cancel_left
          (rows-put a.text.now a.out.now l.out c.set.new.cells a.first a.place l.row _ l.auto.row c.requires.text_fits (omega arith)
          l.auto.out l.invariant.painted c.set.ensures refl);
    }

pub returns : goal.returns
returns c =
    let all : c.loop-row.row - c.args.first ≡ c.args.end - c.args.first = omega arith in
    c.loop-row.invariant.painted ∙ rw all refl
