-- Decimal digits: they are those of the kit's `io::decimal`, and how many there are at most. Assumes nothing.
use mathlib.Core.Path.{◌≡◌, refl}
use mathlib.Core.Bool.{Bool, true, false, cond}
use mathlib.Core.List.{[], ◌∷◌, ◌++◌}
use Prim.Native.Nat.{ℕ, zero, suc, ◌+◌, ◌-◌, ◌/◌, ◌%◌, ◌^◌, ◌≤◌, ◌<◌}
use native.Mathlib.Nat.{one-le-pow}
use native.Mathlib.Omega.{arith}
use lib.Dec.{ltb}
use lib.ListN.{length, length-append}
use borrow.Author.Tests.{ltb-false, lt-ltb, le-ltb}
use Rattle.io.specs.Digits.{hex_digit_ascii, last_digits, IsDigitCount}
use Rattle.text.specs.Text.{decimal_up_to, decimal}

glyph_digit : (n : ℕ) → hex_digit_ascii (n % 10) ≡ 48 + n % 10
glyph_digit n = rw (lt-ltb (n % 10) 10 (omega arith))

one_less : (k : ℕ) → suc k - 1 ≡ k
one_less k = omega arith

-- a number of several digits is at least the power of ten that its first digit counts
from_power : (n k : ℕ) → IsDigitCount 10 1 n (suc (suc k)) → 10 ^ suc k ≤ n
from_power n k few = rw one_less at (few.2 (omega arith))

as_digits : (most n k : ℕ) → n ≤ most → IsDigitCount 10 1 n k → decimal_up_to most n ≡ last_digits 10 k n
unfolding decimal_up_to
as_digits most n zero h few = absurd (omega (arith, few.0))
as_digits zero n (suc zero) h few = rw glyph_digit
as_digits zero n (suc (suc k)) h few = absurd (omega (arith, from_power n k few, one-le-pow k 10 (omega arith)))
as_digits (suc most) n (suc zero) h few =
    let one : n % 10 ≡ n = omega (arith, few.1) in
    rw (lt-ltb n 10 (omega (arith, few.1)), glyph_digit, one)
as_digits (suc most) n (suc (suc k)) h few =
    let above : 10 ^ suc k ≤ n = from_power n k few in
    let several : 10 ≤ n = omega (arith, one-le-pow k 10 (omega arith)) in
    let rest = as_digits most (n / 10) (suc k) (omega arith) (omega arith, omega (arith, few.1), λ l. rw one_less (omega arith)) in
    rw (le-ltb n 10 several, glyph_digit n, rest)

-- a number's fewest digits are its decimal
pub decimal_digits : (n k : ℕ) → IsDigitCount 10 1 n k → decimal n ≡ last_digits 10 k n
unfolding decimal
decimal_digits n k few = as_digits n n k (omega arith) few

some_digits : (most n : ℕ) → 0 < length (decimal_up_to most n)
unfolding decimal_up_to
some_digits zero n = omega arith
some_digits (suc most) n = go (ltb n 10)
  where
    go : (small : Bool) → 0 < length (cond small ((48 + n) ∷ []) (decimal_up_to most (n / 10) ++ ((48 + n % 10) ∷ [])))
    go true = omega arith
    go false = rw length-append (omega arith)

-- a number has a digit
pub decimal_some : (n : ℕ) → 0 < length (decimal n)
unfolding decimal
decimal_some n = some_digits n n

digits_at_most : (most k n : ℕ) → n < 10 ^ suc k → length (decimal_up_to most n) ≤ suc k
unfolding decimal_up_to
digits_at_most zero k n h = omega arith
digits_at_most (suc most) k n h = go (ltb n 10) refl k h (λ k l. digits_at_most most k (n / 10) l)
  where
    go : (small : Bool) → ltb n 10 ≡ small → (k : ℕ) → n < 10 ^ suc k
        → ((k : ℕ) → n / 10 < 10 ^ suc k → length (decimal_up_to most (n / 10)) ≤ suc k)
        → length (cond small ((48 + n) ∷ []) (decimal_up_to most (n / 10) ++ ((48 + n % 10) ∷ []))) ≤ suc k
    go true e k h rest = omega arith
    go false e zero h rest = absurd (omega (arith, ltb-false n 10 e))
    go false e (suc k) h rest = rw length-append (omega (arith, rest k (omega arith)))

-- A number below 10 ^ (k + 1) has at most k + 1 digits.
decimal-length : (k n : ℕ) → n < 10 ^ suc k → length (decimal n) ≤ suc k
unfolding decimal
decimal-length k n h = digits_at_most n k n h

-- so many bytes hold the digits of any number below the bound, and a blank
abbrev pub Short : ℕ → ℕ → Type 0
Short bound bytes = (n : ℕ) → n < bound → length (decimal n) < bytes

pub short_32 : Short (2 ^ 32) 11
short_32 n h = omega (arith, decimal-length 9 n (omega arith))

pub short_64 : Short (2 ^ 64) 21
short_64 n h = omega (arith, decimal-length 19 n (omega arith))
