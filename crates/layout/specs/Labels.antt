-- What a search keeps in the work area beside the map: a label for each place, a depth, and a parent; where the parents will be, a list of the
-- places that are expanded.
use Rattle.std.specs.Prelude.{◌≡◌, cond, List, [], ◌∷◌, ◌++◌, map, ℕ, ◌+◌, ◌^◌, ◌≤◌, ◌<◌, eqb, length, get_or, take, drop}
use Rattle.std.proofs.Math.Option.{Option, none, some}
use Rattle.model.specs.Costs.{Table, cost_at}
use Rattle.map.specs.declared.Site.{Site}
use Rattle.layout.specs.Regions.{depths_at, open_at, parents_at, ends_at, label_word, parent_word}
use Rattle.layout.specs.Map.{Holds}

-- the word of a place with no label or no parent: the largest
abbrev pub no_word : ℕ
no_word = 0xFFFF_FFFF

-- a word that holds a number, or none
unfoldable pub word_or : ℕ → Option ℕ
word_or x = cond (eqb x no_word) none (some x)

-- the labels as a table
unfoldable pub labels : ℕ → List ℕ → Table
labels n w = map word_or (take n w)

-- The depths: for each labelled place how many arcs the search has come along to its label, document 02's "arcs so far".
unfoldable pub depths : ℕ → List ℕ → List ℕ
depths n w = drop (depths_at n) (take (open_at n) w)

-- What a pass over the arcs asks of the area: a map, and labels so small that sums with an arc's cost and an estimate fit.
pub record Labelled (s : Site) (w : List ℕ) : Type 0 where
  pub holds : Holds s w
  pub label_below : (v d : ℕ) → cost_at (labels s.places w) v ≡ some d → d < 2 ^ 30

-- labels, depths and map are as before
pub record Kept (n : ℕ) (w₀ w : List ℕ) : Type 0 where
  pub same_length : length w ≡ length w₀
  pub same_front : take (open_at n) w ≡ take (open_at n) w₀
  pub same_map : drop (ends_at n) w ≡ drop (ends_at n) w₀

-- no place has a label; what follows the labels is as before
pub record NoLabels (n : ℕ) (w₀ w : List ℕ) : Type 0 where
  pub same_rest : drop (depths_at n) w ≡ drop (depths_at n) w₀
  pub none : (v : ℕ) → v < n → label_word w v ≡ no_word

-- place number i of the list of expanded places
unfoldable pub listed_at : ℕ → List ℕ → ℕ → ℕ
listed_at n w i = parent_word n w i

-- the first `count` places of the list are just those of which `Is` holds
pub record Lists (n count : ℕ) (Is : ℕ → Type 0) (w : List ℕ) : Type 0 where
  pub few : count ≤ n
  pub each : (i : ℕ) → i < count → Is (listed_at n w i)
  pub all : (v : ℕ) → Is v → (i : ℕ) × (i < count) × (listed_at n w i ≡ v)

-- the parent of a place
unfoldable pub parent_at : ℕ → List ℕ → ℕ → Option ℕ
parent_at n w v = word_or (get_or w (parents_at n + v) no_word)

-- no place has a parent; labels, depths and map are as before
pub record NoParents (n : ℕ) (w₀ w : List ℕ) : Type 0 where
  pub kept : Kept n w₀ w
  pub none : (v : ℕ) → v < n → parent_word n w v ≡ no_word

-- Following the parents back from v leads along the places r, from the start to v.
pub data Follows (n : ℕ) (w : List ℕ) : ℕ → List ℕ → Type 0 where
  first : {v : ℕ} → v < n → parent_at n w v ≡ none → Follows n w v (v ∷ [])
  after : {u v : ℕ} {r : List ℕ} → v < n → parent_at n w v ≡ some u → Follows n w u r → Follows n w v (r ++ (v ∷ []))
