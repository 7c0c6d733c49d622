use Rattle.sheet.proofs.Whole.{filled}
use Rattle.sheet.proofs.writer.fill.Goals as goal

pub returns : goal.returns
returns c =
    filled c.requires c.write_header.ensures c.write_types.ensures (rw c.elements_at.ensures at c.write_elements.ensures) (rw c.names_at.ensures at c.write_names.ensures) (rw c.texts_at.ensures at c.write_texts.ensures)
