-- Records made of plain numbers, and a list of them that is set from its front on.
use Rattle.std.specs.Prelude.{List, ℕ, zero, suc, ◌^◌, ◌≤◌, length, get_or, set}
use Rattle.tally.specs.declared.Tally.{Tally}

abbrev pub tally_with : (goal routes cost : ℕ) → Tally
tally_with goal routes cost = record { goal = goal; routes = routes; cost = cost }

-- the record that g has by the lists of routes and costs
abbrev pub record_at : (routes costs : List ℕ) → ℕ → Tally
record_at routes costs g = tally_with g (get_or routes g 0) (get_or costs g 0)

-- the first n records are set, each to its own
abbrev pub put_to : ℕ → (routes costs : List ℕ) → List Tally → List Tally
put_to zero routes costs tally = tally
put_to (suc n) routes costs tally = set (put_to n routes costs tally) n (record_at routes costs n)

-- there are n records, and as many numbers in either list
pub record Puttable (n : ℕ) (tally : List Tally) (routes costs : List ℕ) : Type 0 where
  pub records : n ≤ length tally
  pub routes_there : n ≤ length routes
  pub costs_there : n ≤ length costs
  pub few : n ≤ 2 ^ 32
