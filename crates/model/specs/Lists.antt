-- Tests of lists and choices from them, which compute.
use Rattle.std.specs.Prelude.{Bool, true, false, cond, ◌&&◌, ◌||◌, List, [], ◌∷◌, ◌++◌, ℕ, zero, suc, ltb, eqb}
use Rattle.std.proofs.Math.Option.{Option, none, some}

-- some element passes the test
unfoldable pub any {ℓ} : {A : Type ℓ} → (A → Bool) → List A → Bool
any f [] = false
any f (x ∷ xs) = f x || any f xs

-- the elements that pass the test
unfoldable pub filter {ℓ} : {A : Type ℓ} → (A → Bool) → List A → List A
filter f [] = []
filter f (x ∷ xs) = cond (f x) (x ∷ filter f xs) (filter f xs)

unfoldable pub is_given {ℓ} : {A : Type ℓ} → Option A → Bool
is_given none = false
is_given (some x) = true

unfoldable pub cons_if {ℓ} : {A : Type ℓ} → Option A → List A → List A
cons_if none xs = xs
cons_if (some x) xs = x ∷ xs

-- what f gives of the elements of which it gives something
unfoldable pub filter_map {ℓ κ} : {A : Type ℓ} {B : Type κ} → (A → Option B) → List A → List B
unfolding cons_if
filter_map f [] = []
filter_map f (x ∷ xs) = cons_if (f x) (filter_map f xs)

unfoldable pub lesser {ℓ} : {A : Type ℓ} → (A → A → Bool) → A → Option A → A
lesser before x none = x
lesser before x (some y) = cond (before y x) y x

-- the first element in the order `before`; of equals, the one that stands first
unfoldable pub least_by {ℓ} : {A : Type ℓ} → (A → A → Bool) → List A → Option A
unfolding lesser
least_by before [] = none
least_by before (x ∷ xs) = some (lesser before x (least_by before xs))

abbrev pub least : List ℕ → Option ℕ
least = least_by ltb

unfoldable pub member : ℕ → List ℕ → Bool
member x xs = any (eqb x) xs

unfoldable pub repeats : List ℕ → Bool
repeats [] = false
repeats (x ∷ xs) = member x xs || repeats xs

-- each number is above the one before it
unfoldable pub rises : List ℕ → Bool
rises [] = true
rises (x ∷ []) = true
rises (x ∷ y ∷ xs) = ltb x y && rises (y ∷ xs)

-- some number is below the one before it
unfoldable pub falls : List ℕ → Bool
falls [] = false
falls (x ∷ []) = false
falls (x ∷ y ∷ xs) = ltb y x || falls (y ∷ xs)

-- the same numbers in the same order
unfoldable pub same_numbers : List ℕ → List ℕ → Bool
same_numbers [] [] = true
same_numbers [] (y ∷ ys) = false
same_numbers (x ∷ xs) [] = false
same_numbers (x ∷ xs) (y ∷ ys) = eqb x y && same_numbers xs ys

-- the numbers below n
unfoldable pub below : ℕ → List ℕ
below zero = []
below (suc n) = below n ++ (n ∷ [])
