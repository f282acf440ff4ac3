-- The method's own outcome, with the sheet and the sense put back.
use mathlib.Core.List.{[]}
use Rattle.calls.specs.Core.{stores_of}
use Rattle.calls.specs.Effects.{refused}
use Rattle.serve.proofs.Put.{put_back, own-sheet, refused-alone}
use Rattle.serve.proofs.refuse.Goals as goal

pub put_sheet-requires : goal.put_sheet-requires
put_sheet-requires c = own-sheet c.args.state.now c.decode.ensures [] (stores_of [] [] []) (λ k. refused k c.args.count c.args.refusal) (c.refuse.ensures _ []) c.requires.read (refused-alone _ _)

pub returns : goal.returns
returns c = λ b m. put_back c.args.state.now c.decode.ensures b m (λ k. refused k c.args.count c.args.refusal) (c.refuse.ensures m b) c.put_sheet.ensures.answer c.put_sheet.ensures.state
