-- Sums of the numbers that a function gives, or that stand in a list.
use Rattle.std.specs.Prelude.{List, [], ◌∷◌, ℕ, zero, suc, ◌+◌, get_or}

-- the sum of f at the numbers below k
unfoldable pub sum_below : (ℕ → ℕ) → ℕ → ℕ
sum_below f zero = 0
sum_below f (suc k) = sum_below f k + f k

-- the sum of f over a list
unfoldable pub sum_over : {A : Type 0} → (A → ℕ) → List A → ℕ
sum_over f [] = 0
sum_over f (x ∷ xs) = f x + sum_over f xs

-- the sum of the first k numbers of a list
abbrev pub sum_to : List ℕ → ℕ → ℕ
sum_to xs k = sum_below (λ i. get_or xs i 0) k
