-- Sums of the numbers that a function gives. Assumes nothing.
use mathlib.Core.Path.{◌≡◌, refl}
use mathlib.Core.List.{List, [], ◌∷◌, ◌++◌}
use Prim.Native.Nat.{ℕ, zero, suc, ◌+◌, ◌≤◌, ◌<◌}
use native.Mathlib.Numerals.{add-one}
use native.Mathlib.Decide.{le_ind}
use native.Mathlib.Omega.{arith}
use Rattle.model.specs.Sums.{sum_below, sum_over}

pub sum-rises : (f : ℕ → ℕ) (j k : ℕ) → j ≤ k → sum_below f j ≤ sum_below f k
unfolding sum_below
sum-rises f j k l = le_ind {n = j} (λ k. sum_below f j ≤ sum_below f k) (omega arith) (λ k m h. omega arith) k l

pub sum_same : (f g : ℕ → ℕ) (k : ℕ) → ((i : ℕ) → i < k → f i ≡ g i) → sum_below f k ≡ sum_below g k
unfolding sum_below
sum_same f g zero h = refl
sum_same f g (suc k) h = omega (arith, sum_same f g k (λ i l. h i (omega arith)), h k (omega arith))

-- one more number
pub sum-next : (f : ℕ → ℕ) (k : ℕ) → sum_below f (k + 1) ≡ sum_below f k + f k
unfolding sum_below
sum-next f k = rw add-one

-- a number and the sum before it are within the sum of all
pub sum-within : (f : ℕ → ℕ) (v k : ℕ) → v < k → sum_below f v + f v ≤ sum_below f k
sum-within f v k l = omega (arith, sum-next f v, sum-rises f (v + 1) k (omega arith))

pub over_snoc : {A : Type 0} (f : A → ℕ) (xs : List A) (x : A) → sum_over f (xs ++ (x ∷ [])) ≡ sum_over f xs + f x
unfolding sum_over
over_snoc f [] x = omega arith
over_snoc f (y ∷ ys) x = omega (arith, over_snoc f ys x)
