-- The method's own outcome, with the sheet and the sense put back.
use mathlib.Core.List.{[]}
use Rattle.calls.specs.Core.{stores_of}
use Rattle.calls.specs.Effects.{do_move}
use Rattle.serve.proofs.Put.{put_back, own-sheet, move-alone}
use Rattle.serve.proofs.move_on.Goals as goal

pub put_sheet-requires : goal.put_sheet-requires
put_sheet-requires c = own-sheet c.args.state.now c.decode.ensures [] (stores_of [] [] []) (λ k. do_move k c.args.motion) (c.move_on.ensures _ []) c.requires.bytes.read (move-alone _)

pub returns : goal.returns
returns c = λ b m. put_back c.args.state.now c.decode.ensures b m (λ k. do_move k c.args.motion) (c.move_on.ensures m b) c.put_sheet.ensures.answer c.put_sheet.ensures.state

pub move_on-requires : goal.move_on-requires
move_on-requires c = rw c.decode.ensures c.requires.asks
