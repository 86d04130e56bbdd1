-- No loop: the digits that `io::decimal` gives are put. Assumes nothing.
use mathlib.Core.Path.{◌≡◌, sym, ap, ◌∙◌}
use native.Mathlib.Omega.{arith}
use lib.ListN.{length, take}
use Rattle.text.specs.Text.{decimal}
use Rattle.text.proofs.Decimals.{decimal_digits}
use Rattle.text.proofs.put_number.Goals.{After-decimal-count}
use Rattle.text.proofs.put_number.Goals as goal

-- what was given is the number's decimal
spelled : (c : After-decimal-count) → take c.decimal-count.result c.decimal-count.new.out ≡ decimal c.args.x
spelled c = c.decimal-count.ensures.digits ∙ sym (decimal_digits c.args.x c.decimal-count.result c.decimal-count.ensures.len)

pub put_bytes-requires : goal.put_bytes-requires
put_bytes-requires c = omega (arith, ap length (spelled (goal.at.put_bytes-requires c).After-decimal-count))

pub returns : goal.returns
returns c = rw (spelled (goal.at.returns c).After-decimal-count) at c.put_bytes.ensures
