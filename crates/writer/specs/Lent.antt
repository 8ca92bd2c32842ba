-- What is lent to the writer, as crate encoding's definitions take it.
use Rattle.encoding.specs.File as File
use Rattle.writer.specs.declared.parts.Parts.{Parts}

abbrev pub lent : Parts → File.Parts
lent p = File.parts p.bases.now p.ceilings.now p.lengths.now p.steps.now
