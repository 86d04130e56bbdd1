-- What one query asks of the area and leaves in it.
use Rattle.std.specs.Prelude.{◌≡◌, Result, Ok, Err, List, ℕ, ◌^◌, ◌≤◌, ◌<◌, length, drop}
use Rattle.std.proofs.Math.Option.{some}
use Rattle.open_list.specs.Keys.{Used}
use Rattle.map.specs.declared.Site.{Site}
use Rattle.layout.specs.Regions.{ends_at, arcs_at, depth_word}
use Rattle.layout.specs.Map.{problem_at, Holds}
use Rattle.layout.specs.Labels.{labels, listed_at}
use Rattle.model.specs.Limits.{max_places}
use Rattle.model.specs.Problem.{Problem}
use Rattle.model.specs.Costs.{Table, cost_at, table}
use Rattle.model.specs.Query as model
use Rattle.model.specs.Query.{first_goal, query}
use Rattle.model.specs.Routes.{least_paths}
use Rattle.query.specs.Front.{FewestFound}
use Rattle.query.specs.Open.{open_words}
use Rattle.query.specs.declared.Outcome.{Outcome}
use Rattle.query.specs.declared.Outcome.TheVariants.{Ended, Over, Found, None}
use Rattle.query.specs.declared.Asked.{Asked}
use Rattle.query.specs.declared.Spent.{Spent}

-- the code's outcome in document 01's words
abbrev pub outcome_of : Outcome → model.Outcome
outcome_of (Ended x) = model.ended x
outcome_of Over = model.over
outcome_of Found = model.found
outcome_of None = model.nothing

-- the open list's words are such that a query can begin
abbrev pub Ready : ℕ → List ℕ → Type 0
Ready n w = Used n (open_words n w)

-- what `prepare` asks: places, and the words of their regions
pub record Preparable (n : ℕ) (w : List ℕ) : Type 0 where
  pub some : 1 ≤ n
  pub few : n ≤ max_places
  pub words : arcs_at n ≤ length w

-- what it leaves: the map is as before
pub record Prepared (n : ℕ) (w₀ w : List ℕ) : Type 0 where
  pub same_map : drop (ends_at n) w ≡ drop (ends_at n) w₀
  pub ready : Ready n w

-- the area holds a map and an open list, the start is within the limit, and the limit is one that the rounds can ask
pub record Askable (s : Site) (limit : ℕ) (w : List ℕ) : Type 0 where
  pub holds : Holds s w
  pub ready : Ready s.places w
  pub start_within : (problem_at s w).estimate s.start ≤ limit
  pub limit_below : limit < 2 ^ 30

-- the labels are the table's entries up to the cost c
pub record Agrees (label entry : Table) (c : ℕ) : Type 0 where
  pub entry_label : (v d : ℕ) → cost_at entry v ≡ some d → d ≤ c → cost_at label v ≡ some d
  pub label_entry : (v d : ℕ) → cost_at label v ≡ some d → d ≤ c → cost_at entry v ≡ some d

-- the goal that was found, the labels up to its cost, and the depths there, which are the table's of the least paths
pub record FoundAt (p : Problem) (limit place : ℕ) (w : List ℕ) : Type 0 where
  pub cost : ℕ
  pub is_first : first_goal p (table p limit) ≡ some (record { cost = cost; place = place })
  pub agrees : Agrees (labels p.places w) (table p limit) cost
  pub depths : (v d : ℕ) → cost_at (labels p.places w) v ≡ some d → d ≤ cost
      → cost_at (table (least_paths p (table p limit) cost) cost) v ≡ some (depth_word p.places w v)
  pub label_below : (v d : ℕ) → cost_at (labels p.places w) v ≡ some d → d < 2 ^ 30
  pub depth_below : (v d : ℕ) → cost_at (labels p.places w) v ≡ some d → depth_word p.places w v < 2 ^ 30

-- v is one of the places that were expanded: it is listed
abbrev pub IsExpanded : (n count : ℕ) (w : List ℕ) → ℕ → Type 0
IsExpanded n count w v = (i : ℕ) × (i < count) × (listed_at n w i ≡ v)

-- what is given where the allowance lasts: the query's outcome and cost are the definition's
pub record Given (p : Problem) (limit budget left : ℕ) (w : List ℕ) (a : Asked) : Type 0 where
  pub lasts : (query p limit budget).cost ≤ left
  pub outcome : outcome_of a.outcome ≡ (query p limit budget).outcome
  pub count : a.count ≡ (query p limit budget).cost
  pub found : a.outcome ≡ Found → FoundAt p limit a.place w

-- what a query has counted: where it is cut, what was left
abbrev pub counted : ℕ → Result Asked Spent → ℕ
counted left (Ok a) = a.count
counted left (Err e) = left

-- The query's outcome and cost are the definition's, unless it costs more than is left; where it is cut, it has counted what was left. The
-- map is as before, and the open list is ready for the next query. After as many expansions as it has counted, whatever its budget and what was
-- left, each label is the least cost of a path found and each depth the fewest arcs at that cost.
pub record Answered (s : Site) (limit budget left : ℕ) (w₀ w : List ℕ) (r : Result Asked Spent) : Type 0 where
  pub same_map : drop (ends_at s.places) w ≡ drop (ends_at s.places) w₀
  pub ready : Ready s.places w
  pub spent : (e : Spent) → r ≡ Err e → left < (query (problem_at s w₀) limit budget).cost
  pub given : (a : Asked) → r ≡ Ok a → Given (problem_at s w₀) limit budget left w a
  pub fewest : FewestFound (problem_at s w₀) limit (IsExpanded s.places (counted left r) w) (λ v. cost_at (labels s.places w) v)
      (depth_word s.places w)
