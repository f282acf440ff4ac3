-- The front laid over its place, then the sheet and the sense over theirs.
use lib.Seq.{drop-drop}
use Prim.Native.Nat.{◌-◌}
use Rattle.printer.specs.Layout.{sheet_at, pairs_at}
use Rattle.state.proofs.codec.lay_small.Goals as goal

pub returns : goal.returns
returns c = rw (c.lay_sheet.ensures, c.copy_from_slice.ensures.after, c.front_bytes.ensures, drop-drop (pairs_at - sheet_at) sheet_at c.args.s.now)
