-- The word read is the one that stands for the parent. Assumes nothing.
use native.Mathlib.Omega.{arith}
use Rattle.layout.proofs.Labels.{parent_word_lem}
use Rattle.sheet_writer.proofs.parent.Goals as goal

pub returns : goal.returns
returns c = rw c.parent.ensures (parent_word_lem _ _ _ (omega (arith, c.requires)))
