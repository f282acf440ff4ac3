-- The method's own outcome, with the sheet and the sense put back.
use mathlib.Core.List.{[]}
use Rattle.calls.specs.Core.{stores_of}
use Rattle.calls.specs.Effects.{do_write}
use Rattle.serve.proofs.Put.{put_back, own-sheet, write_alone}
use Rattle.serve.proofs.write.Goals as goal

pub put_sheet-requires : goal.put_sheet-requires
put_sheet-requires c = own-sheet c.args.state.now c.decode.ensures [] _ (λ k. do_write k c.args.motion c.args.sent.now) (c.write.ensures [] []) c.requires.bytes.read (write_alone _ _)

pub returns : goal.returns
returns c = λ b l. put_back c.args.state.now c.decode.ensures b (stores_of c.args.page.now l c.args.tables.now) (λ k. do_write k c.args.motion c.args.sent.now) (c.write.ensures l b) c.put_sheet.ensures.answer c.put_sheet.ensures.state

pub write-requires : goal.write-requires
write-requires c = rw c.decode.ensures c.requires.asks
