-- No loop: an input that is too long, or what the call gives. Assumes nothing.
use mathlib.Core.Path.{refl}
use borrow.Author.Rules.{rules}
use Rattle.write_map.proofs.Printing.{printed_long, printed_answered}
use Rattle.write_map.proofs.texts_of.Goals as goal

pub returns-then-input-gt-INPUT : goal.returns-then-input-gt-INPUT
returns-then-input-gt-INPUT c = rw (printed_long c.args.input.now (search rules), c.push_bytes.ensures, c.new-line.ensures) refl

pub returns : goal.returns
returns c = rw (printed_answered c.args.input.now (search rules)) c.put_written.ensures
