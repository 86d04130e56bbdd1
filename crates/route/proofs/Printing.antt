-- The lines of a result, and what is printed of an input. Assumes nothing.
use mathlib.Core.Path.{◌≡◌, refl}
use mathlib.Core.List.{List, ◌++◌, append-nil}
use Prim.Native.Nat.{ℕ, ◌≤◌, ◌<◌}
use lib.ListN.{length, take}
use borrow.Author.Tests.{lt-ltb, le-ltb, eq-eqb, ne_eqb}
use Rattle.model.specs.Answer.{Result}
use Rattle.text.specs.Text.{line, too_long}
use Rattle.route.specs.Printed.{six, places_on, text_of, answered, printed}

pub one_line : (r : Result) → (r.answer.number ≡ 0 → ⊥) → text_of r ≡ line (six r.answer)
unfolding text_of
one_line r h = rw (ne_eqb r.answer.number 0 h, append-nil)

pub two_lines : (r : Result) → r.answer.number ≡ 0
    → text_of r ≡ line (six r.answer) ++ line (places_on (take r.answer.sheet_bytes r.sheet))
unfolding text_of
two_lines r h = rw (eq-eqb r.answer.number 0 h)

-- what is printed of an input that is longer, and of any other
pub printed_long : (input : List ℕ) → 65536 < length input → printed input ≡ too_long
unfolding printed
printed_long input h = rw (lt-ltb 65536 (length input) h) refl

pub printed_answer : (input : List ℕ) → length input ≤ 65536 → printed input ≡ text_of (answered input)
unfolding printed
printed_answer input h = rw (le-ltb 65536 (length input) h) refl
