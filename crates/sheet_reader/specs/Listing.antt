-- What holds of the places of a route sheet's body while they are read.
use Rattle.std.specs.Prelude.{◌≡◌, Bool, true, false, List, ◌++◌, ℕ, ◌+◌, ◌-◌, ◌*◌, ◌≤◌, ◌<◌, length, get_or, replicate}
use Rattle.model.specs.Bytes.{u16, u16s}
use Rattle.model.specs.Limits.{max_places}

-- place i of the body
abbrev pub place_at : List ℕ → ℕ → ℕ
place_at body i = u16 body (6 + 2 * i)

-- The first i places are listed; they are places of a map, and different; exactly those that are among them are marked.
pub record Passed (body : List ℕ) (count i : ℕ) (list : List ℕ) (seen : List Bool) : Type 0 where
  pub within : i ≤ count
  pub listed : list ≡ u16s i body 6 ++ replicate (max_places - i) 0
  pub marks : length seen ≡ max_places
  pub below : (j : ℕ) → j < i → place_at body j < max_places
  pub marked : (j : ℕ) → j < i → get_or seen (place_at body j) false ≡ true
  pub met : (v : ℕ) → get_or seen v false ≡ true → (j : ℕ) × (j < i) × (place_at body j ≡ v)
  pub different : (j k : ℕ) → j < k → k < i → place_at body j ≡ place_at body k → ⊥
