-- No loop: the zeros are the definition's. Assumes nothing.
use Rattle.model.specs.Sheets.{reading, refused_read}
use Rattle.sheet_reader.proofs.refused.Goals as goal

pub returns : goal.returns
unfolding reading refused_read
returns c = rw c.from.ensures
