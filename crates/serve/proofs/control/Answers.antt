-- A case each, by that control's own method, and what it can have changed put back.
use mathlib.Core.Path.{refl, sym, ap, ◌∙◌}
use mathlib.Core.Bool.{◌&&◌}
use mathlib.Core.List.{[]}
use native.Mathlib.Omega.{arith}
use lib.Dec.{ltb}
use lib.ListN.{length}
use borrow.Author.Tests.{ltb-false}
use Rattle.numbers.specs.Sizes.{sense_size}
use Rattle.calls.specs.declared.Control.{Control}
use Rattle.calls.specs.declared.Control.TheVariants.{NoOp, SenseIo, Initialize, Clear, Block, Allow, Select}
use Rattle.calls.specs.Core.{stores_of}
use Rattle.calls.specs.Commands.{control_traits}
use Rattle.calls.specs.Effects.{do_control}
use Rattle.serve.proofs.Put.{put_back, left_alone, own-sheet, same-arrays, sense-alone, clear-alone, block-leaves, allow-leaves, select-leaves}
use Rattle.serve.proofs.control.Goals as goal

pub sense_io-requires : goal.sense_io-requires
unfolding control_traits
sense_io-requires c = ltb-false _ sense_size (ap (λ (k : Control). (control_traits k).replies && ltb (length c.args.reply.now) sense_size) (sym c.in-SenseIo.is) ∙ c.requires.roomy)

pub put_sheet-requires : goal.put_sheet-requires
put_sheet-requires c = own-sheet c.args.state.now c.decode-in-SenseIo.ensures c.args.reply.now ((stores_of [] c.args.legends.now c.args.tables.now)) (λ k. do_control k SenseIo) (c.sense_io.ensures _) c.requires.bytes.read sense-alone

pub put_sheet-requires-in-Clear : goal.put_sheet-requires-in-Clear
put_sheet-requires-in-Clear c = own-sheet c.args.state.now c.decode-in-Clear.ensures [] ((stores_of [] c.args.legends.now c.args.tables.now)) (λ k. do_control k Clear) (c.clear.ensures _ []) c.requires.bytes.read clear-alone

pub put_small-requires : goal.put_small-requires
put_small-requires c = same-arrays c.args.state.now c.decode-in-Block.ensures [] ((stores_of [] c.args.legends.now c.args.tables.now)) (λ k. do_control k Block) (c.block.ensures _ []) c.requires.bytes.read block-leaves

pub put_small-requires-in-Allow : goal.put_small-requires-in-Allow
put_small-requires-in-Allow c = same-arrays c.args.state.now c.decode-in-Allow.ensures [] ((stores_of [] c.args.legends.now c.args.tables.now)) (λ k. do_control k Allow) (c.allow.ensures _ []) c.requires.bytes.read allow-leaves

pub put_small-requires-in-Select : goal.put_small-requires-in-Select
put_small-requires-in-Select c = same-arrays c.args.state.now c.decode-in-Select.ensures [] ((stores_of [] c.args.legends.now c.args.tables.now)) (λ k. do_control k (Select c.in-Select.slot)) (c.select.ensures _ []) c.requires.bytes.read (select-leaves _)

pub returns-in-NoOp : goal.returns-in-NoOp
unfolding do_control
returns-in-NoOp c = λ p. rw c.in-NoOp.is (left_alone c.args.state.now c.decode.ensures c.args.reply.now ((stores_of p c.args.legends.now c.args.tables.now)) (λ k. do_control k NoOp) (c.no_op.ensures _ _) (λ n. omega (arith, c.fits-state n)) c.requires.bytes.read refl refl)

pub returns-in-SenseIo : goal.returns-in-SenseIo
returns-in-SenseIo c = λ p. rw c.in-SenseIo.is (put_back c.args.state.now c.decode-in-SenseIo.ensures c.args.reply.now ((stores_of p c.args.legends.now c.args.tables.now)) (λ k. do_control k SenseIo) (c.sense_io.ensures _) c.put_sheet.ensures.answer c.put_sheet.ensures.state)

pub returns-in-Initialize : goal.returns-in-Initialize
returns-in-Initialize c = λ p. rw c.in-Initialize.is (put_back c.args.state.now c.decode-in-Initialize.ensures c.args.reply.now ((stores_of p c.args.legends.now c.args.tables.now)) (λ k. do_control k Initialize) (c.initialize.ensures p _) c.put_all.ensures.answer c.put_all.ensures.state)

pub returns-in-Clear : goal.returns-in-Clear
returns-in-Clear c = λ p. rw c.in-Clear.is (put_back c.args.state.now c.decode-in-Clear.ensures c.args.reply.now ((stores_of p c.args.legends.now c.args.tables.now)) (λ k. do_control k Clear) (c.clear.ensures _ _) c.put_sheet-in-Clear.ensures.answer c.put_sheet-in-Clear.ensures.state)

pub returns-in-Block : goal.returns-in-Block
returns-in-Block c = λ p. rw c.in-Block.is (put_back c.args.state.now c.decode-in-Block.ensures c.args.reply.now ((stores_of p c.args.legends.now c.args.tables.now)) (λ k. do_control k Block) (c.block.ensures _ _) c.put_small.ensures.answer c.put_small.ensures.state)

pub returns-in-Allow : goal.returns-in-Allow
returns-in-Allow c = λ p. rw c.in-Allow.is (put_back c.args.state.now c.decode-in-Allow.ensures c.args.reply.now ((stores_of p c.args.legends.now c.args.tables.now)) (λ k. do_control k Allow) (c.allow.ensures _ _) c.put_small-in-Allow.ensures.answer c.put_small-in-Allow.ensures.state)

pub returns-in-Select : goal.returns-in-Select
returns-in-Select c = λ p. rw c.in-Select.is (put_back c.args.state.now c.decode-in-Select.ensures c.args.reply.now ((stores_of p c.args.legends.now c.args.tables.now)) (λ k. do_control k (Select c.in-Select.slot)) (c.select.ensures _ _) c.put_small-in-Select.ensures.answer c.put_small-in-Select.ensures.state)

pub initialize-requires : goal.initialize-requires
initialize-requires c = rw c.decode-in-Initialize.ensures c.requires.resets
