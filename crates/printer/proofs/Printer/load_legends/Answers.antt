-- The legends stored, with the causes of their texts.
use Rattle.line.specs.Line.{text_causes}
use Rattle.line.proofs.TableLaws.{length-serving}
use Rattle.calls.specs.Effects.{loaded, load_causes, do_load}
use Rattle.printer.proofs.Printer.load_legends.Goals as goal

pub store_legends-requires-clause-table_len : goal.store_legends-requires-clause-table_len
store_legends-requires-clause-table_len c = rw (c.serving-table.ensures) (length-serving _ _ c.requires.slot c.requires.tables)

pub returns : goal.returns
unfolding do_load loaded load_causes text_causes
returns c = λ p b. rw (
  ← c.serving-table.ensures,
  ← c.store_legends.ensures.legends,
  ← c.store_legends.ensures.found,
  ← c.is_loaded.ensures,
) (c.stand.ensures _ b)
