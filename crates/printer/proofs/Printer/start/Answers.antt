-- A form and pitches that Start takes fit their fields, and each store is as `fresh` has it.
use mathlib.Core.Path.{◌≡◌, refl}
use mathlib.Core.Bool.{true}
use mathlib.Core.List.{List, [], ◌∷◌}
use Prim.Native.Nat.{ℕ, zero, suc, ◌≤◌}
use native.Mathlib.Omega.{arith}
use lib.Dec.{leb}
use lib.ListN.{get_or}
use borrow.Author.Rules.{rules}
use borrow.Author.Tests.{leb-true}
use Rattle.seq.specs.Words.{all, listed}
use Rattle.seq.proofs.Laws.{and_left, and_right, every-at, listed-all, four}
use Rattle.form.specs.Form.{pitches_listed, pitches_ok, form_ok}
use Rattle.form.proofs.FormLaws.{form-listed, short-form}
use Rattle.legends.specs.Legends.{no_legends}
use Rattle.calls.specs.Reset.{no_cells, reset_stores, fresh}
use Rattle.calls.specs.Start.{start_world}
use Rattle.calls.proofs.Good.{sizes-good}
use Rattle.printer.proofs.Printer.start.Goals as goal

byte : (p : ℕ) → listed pitches_listed p ≡ true → p ≤ 255
unfolding pitches_listed
byte p e = leb-true p 255 (listed-all (λ n. leb n 255) p pitches_listed refl e)

pitch : (ps : List ℕ) (k : ℕ) → all (listed pitches_listed) ps ≡ true → get_or ps k 0 ≤ 255
pitch [] k e = omega arith
pitch (p ∷ ps) zero e = byte p (and_left _ _ e)
pitch (p ∷ ps) (suc k) e = pitch ps k (and_right (listed pitches_listed p) _ e)

-- each pitch of a form that Start takes is a byte
fits : (len : ℕ) (ps : List ℕ) (k : ℕ) → form_ok len ps ≡ true → get_or ps k 0 ≤ 255
unfolding form_ok pitches_ok
fits len ps k e = pitch ps k (and_left _ _ (every-at 1 _ e))

pub returns : goal.returns
unfolding start_world fresh reset_stores no_cells no_legends
returns c = let z = sizes-good _ c.requires.sizes in rw (
  c.accepted.ensures,
  c.start_state-self.ensures,
  c.start_tables.ensures,
  c.fill-2.ensures.after (λ y h. h),
  z.legends,
  c.fill.ensures.after (λ y h. h),
  z.page,
  four c.args.asked.pitches (search rules),
)

pub overflow_cast-fixed : goal.overflow_cast-fixed
overflow_cast-fixed c = omega (arith, short-form c.args.asked.length (form-listed _ _ c.requires.form))

pub overflow_cast-fixed-2 : goal.overflow_cast-fixed-2
overflow_cast-fixed-2 c = omega (arith, fits _ _ 0 c.requires.form)

pub overflow_cast-fixed-3 : goal.overflow_cast-fixed-3
overflow_cast-fixed-3 c = omega (arith, fits _ _ 1 c.requires.form)

pub overflow_cast-fixed-4 : goal.overflow_cast-fixed-4
overflow_cast-fixed-4 c = omega (arith, fits _ _ 2 c.requires.form)

pub overflow_cast-fixed-5 : goal.overflow_cast-fixed-5
overflow_cast-fixed-5 c = omega (arith, fits _ _ 3 c.requires.form)

pub start_tables-requires : goal.start_tables-requires
start_tables-requires c = (sizes-good _ c.requires.sizes).tables

pub start_state-self-requires : goal.start_state-self-requires
start_state-self-requires c = form-listed _ _ c.requires.form
