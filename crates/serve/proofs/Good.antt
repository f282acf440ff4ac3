-- What the methods of an accepted call may count on, from contents that were judged good.
use Prim.Native.Nat.{ℕ, ◌≤◌}
use mathlib.Core.Path.{◌≡◌, refl}
use mathlib.Core.Bool.{true}
use mathlib.Core.List.{List}
use native.Mathlib.Omega.{arith}
use lib.ListN.{length, length-take}
use borrow.Author.Tests.{leb-true}
use Rattle.seq.proofs.Laws.{every-at}
use Rattle.form.specs.declared.Layout.{Layout}
use Rattle.form.specs.declared.Forms.{Forms}
use Rattle.form.specs.Form.{fcb_size, fcb_now, layout_of, forms_in_range}
use Rattle.form.proofs.LayoutLaws.{layout-fits}
use Rattle.line.specs.Line.{slots_in_range}
use Rattle.calls.specs.Core.{Stores, Core, lines_now, laid_out}
use Rattle.calls.specs.Premises.{Good}
use Rattle.calls.proofs.Good.{good, few-now}
use Rattle.printer.specs.Premises.{Fit}
use Rattle.state.specs.State.{state_at, core_at}
use Rattle.state.proofs.Sound.{sound-good}
use Rattle.serve.specs.Served.{Judged}

fcb-short : (f : Forms) → forms_in_range f ≡ true → length (fcb_now f) ≤ fcb_size
unfolding forms_in_range
fcb-short f e = omega (arith, length-take f.count f.fcb, leb-true f.count fcb_size (every-at 0 _ e))

-- contents that are good, with w the form laid out
fit : (k : Core) (w : Layout) → w ≡ laid_out k.state → Good k → Fit k.state w
unfolding slots_in_range lines_now layout_of
fit k w e g =
    let s = k.state in
    rw e
    (record {
      layout = refl;
      fixed = g.fixed;
      fits = omega (arith, layout-fits s.fixed.length (fcb_now s.forms), fcb-short s.forms g.forms.range);
      few = few-now k g;
      low = g.sheet.low;
      high = g.sheet.high;
      slot = leb-true _ 3 (every-at 1 _ g.slots);
    })

module _ {s : List ℕ} {m : Stores} {w : Layout} (j : Judged s m w) where
  pub judged-good : Good (core_at s m)
  judged-good = good _ (sound-good s m j.sound)

  pub judged-fit : Fit (state_at s) w
  judged-fit = fit (core_at s m) w j.layout judged-good
