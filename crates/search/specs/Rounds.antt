-- How the code's rounds and endings stand for the definitions'.
use Rattle.std.specs.Prelude as std
use Rattle.std.specs.Prelude.{◌≡◌, List, ℕ, drop, Some, None}
use Rattle.std.proofs.Math.Option.{Option, none, some}
use Rattle.map.specs.declared.Site.{Site}
use Rattle.layout.specs.Regions.{ends_at}
use Rattle.layout.specs.Map.{problem_at}
use Rattle.layout.specs.Labels.{Follows}
use Rattle.model.specs.Rounds as model
use Rattle.model.specs.Endings as endings
use Rattle.model.specs.Endings.{Ending, budgeted}
use Rattle.search.specs.declared.Round.{Round}
use Rattle.search.specs.declared.CutShort.{CutShort}
use Rattle.search.specs.declared.NoGoal.{NoGoal}
use Rattle.search.specs.declared.Reached.{Reached}
use Rattle.search.specs.declared.Verdict.{Verdict}
use Rattle.search.specs.declared.Verdict.TheVariants.{Spent, NoRoute, Routed}

-- high, none while it is unset, as the definitions have it
abbrev pub high_of : std.Option ℕ → Option ℕ
high_of None = none
high_of (Some h) = some h

-- the outcome that the record carries besides is that of the query before
abbrev pub round_of : Round → model.Round
round_of r = record { low = r.low; high = high_of r.high; budget = r.budget }

-- the definitions' endings with the code's numbers
abbrev pub cut_of : CutShort → endings.CutShort
cut_of v = record { floor = v.floor; expansions = v.expansions; queries = v.queries }

abbrev pub no_goal_of : (start : ℕ) → NoGoal → endings.NoGoal
no_goal_of start v = record { start = start; limit = v.limit; expansions = v.expansions; queries = v.queries }

abbrev pub reached_by : List ℕ → Reached → endings.Reached
reached_by places v =
    record { cost = v.cost; places = places; limit = v.limit; expansions = v.expansions; queries = v.queries }

-- Document 01's ending for each verdict. Of a route: the parents in the area lead along the places that the definitions put on the sheet.
abbrev pub Means : Site → List ℕ → Verdict → Ending → Type 0
Means s w (Spent v) e = e ≡ endings.spent (cut_of v)
Means s w (NoRoute v) e = e ≡ endings.no_route (no_goal_of s.start v)
Means s w (Routed v) e = (r : List ℕ) × (e ≡ endings.routed (reached_by r v)) × Follows s.places w v.goal r

pub record Searched (s : Site) (allowance : ℕ) (w₀ w : List ℕ) (r : Verdict) : Type 0 where
  pub same_map : drop (ends_at s.places) w ≡ drop (ends_at s.places) w₀
  pub means : Means s w r (budgeted (problem_at s w₀) allowance)
