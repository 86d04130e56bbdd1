-- A mark for each place of the map that a record gives a number: the first one marks it. What a number is marked by is a letter, `mark`: two marks tell
-- estimates of 0 from others; a wait is marked by one more than it is.
use Rattle.std.specs.Prelude.{◌≡◌, Bool, cond, not, ◌&&◌, List, [], ◌∷◌, ℕ, ltb, eqb, length, get_or, set}
use Rattle.model.specs.Items.{PlaceValue}
use Rattle.model.specs.Limits.{max_places}

-- a place's mark: 0 for no estimate, 1 for an estimate of 0, 2 for another
unfoldable pub mark_of : ℕ → ℕ
mark_of value = cond (eqb value 0) 1 2

-- the mark of the first number for v, 0 where there is none
unfoldable pub first_mark : (mark : ℕ → ℕ) → List PlaceValue → ℕ → ℕ
first_mark mark [] v = 0
first_mark mark (x ∷ xs) v = cond (eqb x.place v) (mark x.value) (first_mark mark xs v)

-- the place v of the map's n has a mark
unfoldable pub marked : ℕ → List ℕ → ℕ → Bool
marked n marks v = ltb v n && not (eqb (get_or marks v 0) 0)

-- a number for a place of the map marks it, if none has
unfoldable pub marked_by : (mark : ℕ → ℕ) → ℕ → List ℕ → (place value : ℕ) → List ℕ
marked_by mark n marks place value = cond (ltb place n && eqb (get_or marks place 0) 0) (set marks place (mark value)) marks

pub record Marked (n : ℕ) (marks₀ : List ℕ) (place value : ℕ) (again : Bool) (marks : List ℕ) : Type 0 where
  pub before : again ≡ marked n marks₀ place
  pub after : marks ≡ marked_by mark_of n marks₀ place value

-- no place has a mark
pub record Clear (marks : List ℕ) : Type 0 where
  pub room : length marks ≡ max_places
  pub zero : (v : ℕ) → get_or marks v 0 ≡ 0
