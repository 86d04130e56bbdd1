-- What a way over the lanes of an input costs, said of what its records state, with no search problem made of it. Document 02, paper 5: "Cost means
-- lanes plus waits in every comparison from here on".
use Rattle.std.specs.Prelude.{◌≡◌, ℕ, ◌+◌}
use mathlib.Core.List.{List, [], ◌∷◌, ◌++◌, map, Memᴰ}
use Rattle.model.specs.Sums.{sum_over}
use Rattle.model.specs.Items.{Lane}
use Rattle.model.specs.Stated.{Stated, lane_cost, wait_at}

-- lanes that are stated, one after another, from u to v
pub data Way (s : Stated) (u : ℕ) : (v : ℕ) → List Lane → Type 0 where
  stay : Way s u u []
  on : {lanes : List Lane} (l : Lane) → Memᴰ l s.lanes → Way s u l.from lanes → Way s u l.to (lanes ++ (l ∷ []))

-- what its lanes cost by themselves
unfoldable pub lanes_cost : Stated → List Lane → ℕ
lanes_cost s lanes = sum_over (lane_cost s) lanes

-- What it waits: "charged each time a cart leaves it by any arc, the start included". Where it ends nothing is charged.
unfoldable pub waits_cost : Stated → List Lane → ℕ
waits_cost s lanes = sum_over (λ (l : Lane). wait_at s l.from) lanes

-- a way from u to v that costs d, lanes plus waits, along the places r
pub record Travels (s : Stated) (u v d : ℕ) (r : List ℕ) : Type 0 where
  pub lanes : List Lane
  pub way : Way s u v lanes
  pub cost : d ≡ lanes_cost s lanes + waits_cost s lanes
  pub in_order : r ≡ u ∷ map (λ (l : Lane). l.to) lanes
