-- The order of lanes in a written map. Document 02, paper 3: "all arcs by from, to, cost, kind and their remaining fields".
use Rattle.std.specs.Prelude.{Bool, true, false, ◌&&◌, ◌||◌, List, [], ◌∷◌, ℕ, ltb, eqb}
use Rattle.model.specs.Items.{arc_kind, measured_kind, Charge, flat, measured, Lane}
use Rattle.model.specs.Stated.{cost_under}

-- the kind of a lane's record, and the fields that it has besides places and cost
unfoldable pub kind_fields : Charge → List ℕ
kind_fields (flat cost) = arc_kind ∷ []
kind_fields (measured length class) = measured_kind ∷ length ∷ class ∷ []

-- what a lane is ordered by, under a table of factors
unfoldable pub order_fields : List ℕ → Lane → List ℕ
order_fields factors l = l.from ∷ l.to ∷ cost_under factors l.charge ∷ kind_fields l.charge

-- by the first numbers that differ
unfoldable pub no_greater : List ℕ → List ℕ → Bool
no_greater [] ys = true
no_greater (x ∷ xs) [] = false
no_greater (x ∷ xs) (y ∷ ys) = ltb x y || (eqb x y && no_greater xs ys)

-- the first lane may stand before the second
unfoldable pub no_later : List ℕ → Lane → Lane → Bool
no_later factors l m = no_greater (order_fields factors l) (order_fields factors m)
