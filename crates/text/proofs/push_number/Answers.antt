-- No loop: the digits that `io::decimal` gives are put. Assumes nothing.
use mathlib.Core.Path.{◌≡◌, sym, ap, ◌∙◌}
use native.Mathlib.Omega.{arith}
use lib.ListN.{length, take}
use borrow.Author.Rules.{rules}
use Rattle.text.specs.Text.{decimal}
use Rattle.text.proofs.Decimals.{decimal_digits}
use Rattle.text.proofs.push_number.Given.{Over}
use Rattle.text.proofs.push_number.Goals.{After-decimal-count}
use Rattle.text.proofs.push_number.Goals as goal

-- what was given is the number's decimal
spelled : (g : Over) (c : After-decimal-count g) → take c.decimal-count.result c.decimal-count.new.out ≡ decimal c.args.x
spelled g c = c.decimal-count.ensures.digits ∙ sym (decimal_digits c.args.x c.decimal-count.result c.decimal-count.ensures.len)

pub push_bytes-requires : goal.push_bytes-requires
push_bytes-requires g c = (search rules, omega (arith, ap length (spelled g (goal.at.push_bytes-requires g c).After-decimal-count)))

pub returns : goal.returns
returns g c = rw (spelled g (goal.at.returns g c).After-decimal-count) at c.push_bytes.ensures
