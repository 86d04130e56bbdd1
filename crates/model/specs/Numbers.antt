-- A number's count of binary digits.
use Rattle.std.specs.Prelude.{ℕ, zero, suc, ◌/◌}

unfoldable pub digits_up_to : ℕ → ℕ → ℕ
digits_up_to zero n = 0
digits_up_to (suc k) zero = 0
digits_up_to (suc k) (suc n) = suc (digits_up_to k (suc n / 2))

-- 0 for 0
unfoldable pub binary_digits : ℕ → ℕ
binary_digits n = digits_up_to n n
