-- No loop: an input that is too long, or the lines of its answer. Assumes nothing.
use mathlib.Core.Path.{refl}
use borrow.Author.Rules.{rules}
use Rattle.route.proofs.Printing.{printed_long, printed_answer}
use Rattle.route.proofs.text_of.Goals as goal

pub returns-then-input-gt-INPUT : goal.returns-then-input-gt-INPUT
returns-then-input-gt-INPUT c = rw (printed_long c.args.input.now (search rules), c.push_bytes.ensures, c.requires) refl

pub returns-else-input-gt-INPUT : goal.returns-else-input-gt-INPUT
returns-else-input-gt-INPUT c = rw (printed_answer c.args.input.now (search rules)) c.put_route.ensures
