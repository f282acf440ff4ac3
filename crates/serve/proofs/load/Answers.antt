-- A case each, by that load's own method; its check gives the sizes that the method asks for.
use mathlib.Core.Path.{◌≡◌, sym, ap, ◌∙◌}
use mathlib.Core.List.{List, []}
use Prim.Native.Nat.{ℕ, ◌≤◌}
use native.Mathlib.Omega.{arith}
use lib.ListN.{length}
use borrow.Author.Tests.{eqb-true, not-false}
use Rattle.seq.proofs.Laws.{and_left, passed}
use Rattle.std.specs.Prelude.{Ok}
use Rattle.numbers.proofs.Laws.{faulty}
use Rattle.form.proofs.FormLaws.{form-listed, fcb-fits}
use Rattle.copies.specs.Copies.{number_check}
use Rattle.copies.proofs.CopiesLaws.{table-long, sequence-fits}
use Rattle.calls.specs.declared.Load.{Load}
use Rattle.calls.specs.declared.Load.TheVariants.{Fcb, TranslateTable, CopyModification, OverlaySequence, CopyNumber}
use Rattle.calls.specs.Core.{stores_of}
use Rattle.calls.specs.Effects.{load_check, do_load}
use Rattle.state.specs.State.{state_at}
use Rattle.serve.proofs.Put.{put_back, same-arrays, table-leaves, legends-leave, number-leaves}
use Rattle.serve.proofs.load.Goals as goal

one_byte : (r : List ℕ) → number_check r ≡ Ok tt → 1 ≤ length r
unfolding number_check
one_byte r e = let h : length r ≡ 1 = eqb-true _ _ (and_left _ _ (not-false _ (passed _ _ faulty e).0)) in omega (arith, h)

pub load_fcb-requires : goal.load_fcb-requires
unfolding load_check
load_fcb-requires c = fcb-fits _ _ (form-listed _ (state_at c.args.state.now).fixed.pitches c.requires.fixed) ((ap (λ (l : Load). load_check (state_at c.args.state.now) l c.args.sent.now) (sym c.in-Fcb.is) ∙ c.requires.check))

pub load_table-requires : goal.load_table-requires
unfolding load_check
load_table-requires c = rw c.decode-in-TranslateTable.ensures (record { slot = c.requires.slot; long = table-long _ ((ap (λ (l : Load). load_check (state_at c.args.state.now) l c.args.sent.now) (sym c.in-TranslateTable.is) ∙ c.requires.check)); tables = c.requires.tables })

pub put_small-requires : goal.put_small-requires
put_small-requires c = same-arrays c.args.state.now c.decode-in-TranslateTable.ensures [] ((stores_of [] c.args.legends.now c.args.tables.now)) (λ k. do_load k TranslateTable c.args.sent.now) (c.load_table.ensures [] _ []) c.requires.bytes.read (table-leaves _)

pub load_legends-requires : goal.load_legends-requires
unfolding load_check
load_legends-requires c = rw c.decode-in-CopyModification.ensures (record { slot = c.requires.slot; sound = (ap (λ (l : Load). load_check (state_at c.args.state.now) l c.args.sent.now) (sym c.in-CopyModification.is) ∙ c.requires.check); short = c.requires.short; legends = c.requires.legends; tables = c.requires.tables })

pub put_small-requires-in-CopyModification : goal.put_small-requires-in-CopyModification
put_small-requires-in-CopyModification c = same-arrays c.args.state.now c.decode-in-CopyModification.ensures [] ((stores_of [] c.args.legends.now c.args.tables.now)) (λ k. do_load k CopyModification c.args.sent.now) (c.load_legends.ensures [] []) c.requires.bytes.read (legends-leave _)

pub put_small-requires-in-CopyNumber : goal.put_small-requires-in-CopyNumber
put_small-requires-in-CopyNumber c = same-arrays c.args.state.now c.decode-in-CopyNumber.ensures [] ((stores_of [] c.args.legends.now c.args.tables.now)) (λ k. do_load k CopyNumber c.args.sent.now) (c.load_number.ensures _ []) c.requires.bytes.read (number-leaves _)

pub returns-in-Fcb : goal.returns-in-Fcb
returns-in-Fcb c = λ b p. rw c.in-Fcb.is (put_back c.args.state.now c.decode.ensures b ((stores_of p c.args.legends.now c.args.tables.now)) (λ k. do_load k Fcb c.args.sent.now) (c.load_fcb.ensures _ b) c.put_all.ensures.answer c.put_all.ensures.state)

pub returns-in-TranslateTable : goal.returns-in-TranslateTable
returns-in-TranslateTable c = λ b p. rw c.in-TranslateTable.is (put_back c.args.state.now c.decode-in-TranslateTable.ensures b ((stores_of p c.args.legends.now c.args.tables.now)) (λ k. do_load k TranslateTable c.args.sent.now) (c.load_table.ensures p _ b) c.put_small.ensures.answer c.put_small.ensures.state)

pub returns-in-CopyModification : goal.returns-in-CopyModification
returns-in-CopyModification c = λ b p. rw c.in-CopyModification.is (put_back c.args.state.now c.decode-in-CopyModification.ensures b ((stores_of p c.args.legends.now c.args.tables.now)) (λ k. do_load k CopyModification c.args.sent.now) (c.load_legends.ensures p b) c.put_small-in-CopyModification.ensures.answer c.put_small-in-CopyModification.ensures.state)

pub returns-in-OverlaySequence : goal.returns-in-OverlaySequence
returns-in-OverlaySequence c = λ b p. rw c.in-OverlaySequence.is (put_back c.args.state.now c.decode-in-OverlaySequence.ensures b ((stores_of p c.args.legends.now c.args.tables.now)) (λ k. do_load k OverlaySequence c.args.sent.now) (c.load_sequence.ensures _ b) c.put_all-in-OverlaySequence.ensures.answer c.put_all-in-OverlaySequence.ensures.state)

pub returns-in-CopyNumber : goal.returns-in-CopyNumber
returns-in-CopyNumber c = λ b p. rw c.in-CopyNumber.is (put_back c.args.state.now c.decode-in-CopyNumber.ensures b ((stores_of p c.args.legends.now c.args.tables.now)) (λ k. do_load k CopyNumber c.args.sent.now) (c.load_number.ensures _ b) c.put_small-in-CopyNumber.ensures.answer c.put_small-in-CopyNumber.ensures.state)

pub load_sequence-requires : goal.load_sequence-requires
unfolding load_check
load_sequence-requires c = sequence-fits _ ((ap (λ (l : Load). load_check (state_at c.args.state.now) l c.args.sent.now) (sym c.in-OverlaySequence.is) ∙ c.requires.check))

pub load_number-requires : goal.load_number-requires
unfolding load_check
load_number-requires c = one_byte _ ((ap (λ (l : Load). load_check (state_at c.args.state.now) l c.args.sent.now) (sym c.in-CopyNumber.is) ∙ c.requires.check))
