-- Numbers and lines as the definitions compute them. Assumes nothing.
use mathlib.Core.Path.{◌≡◌, refl}
use mathlib.Core.List.{[], ◌∷◌}
use native.Mathlib.Omega.{arith}
use Rattle.text.specs.Text.{decimal_up_to, decimal, parted, line}
use Rattle.text.proofs.Decimals.{decimal_digits}

zero_digits : decimal 0 ≡ 48 ∷ []
unfolding decimal_up_to decimal
zero_digits = refl

ten_digits : decimal 10 ≡ 49 ∷ 48 ∷ []
unfolding decimal_up_to decimal
ten_digits = refl

five_digits : decimal 65535 ≡ 54 ∷ 53 ∷ 53 ∷ 51 ∷ 53 ∷ []
unfolding decimal_up_to decimal
five_digits = refl

-- 4294967295, the largest number of 32 bits
most_digits : decimal 4294967295 ≡ 52 ∷ 50 ∷ 57 ∷ 52 ∷ 57 ∷ 54 ∷ 55 ∷ 50 ∷ 57 ∷ 53 ∷ []
most_digits = decimal_digits 4294967295 10 (omega arith, omega arith, λ l. omega arith)

-- 18446744073709551615, the largest number of 64 bits
most_wide_digits : decimal 18446744073709551615
    ≡ 49 ∷ 56 ∷ 52 ∷ 52 ∷ 54 ∷ 55 ∷ 52 ∷ 52 ∷ 48 ∷ 55 ∷ 51 ∷ 55 ∷ 48 ∷ 57 ∷ 53 ∷ 53 ∷ 49 ∷ 54 ∷ 49 ∷ 53 ∷ []
most_wide_digits = decimal_digits 18446744073709551615 20 (omega arith, omega arith, λ l. omega arith)

empty_line : line [] ≡ 10 ∷ []
unfolding parted line
empty_line = refl

-- "0 10 9" and a line feed
three_numbers : line (0 ∷ 10 ∷ 9 ∷ []) ≡ 48 ∷ 32 ∷ 49 ∷ 48 ∷ 32 ∷ 57 ∷ 10 ∷ []
unfolding decimal_up_to decimal parted line
three_numbers = refl
