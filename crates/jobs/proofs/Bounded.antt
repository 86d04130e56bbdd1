-- What bounds the figures: each entry can be run, and each result is one of the papers' answers, with a cost, expansions and a goal that are no larger
-- than a map's size lets them be.
use mathlib.Core.Path.{◌≡◌}
use mathlib.Core.Logic.{◌⊎◌}
use Prim.Native.Nat.{ℕ, ◌*◌, ◌≤◌, ◌<◌}
use lib.ListN.{length}
use Rattle.model.specs.Answer.{Result}
use Rattle.model.specs.Bytes.{Bytes}
use Rattle.model.specs.Limits.{max_places}
use Rattle.jobs.specs.Entries.{Entry, alone, refused}
use Rattle.jobs.specs.Figures.{goal_of}
use Rattle.jobs.specs.Report.{numbers}
use Rattle.jobs.specs.Steps.{last_on}

-- what is run is bytes, and what is refused is refused as a map or a job is
abbrev pub Sound : Entry → Type 0
Sound (alone input) = Bytes input
Sound (refused number) = (1 ≤ number) × (number ≤ 15)

-- 4,095 arcs of 65,535 each
abbrev pub max_route : ℕ
max_route = 4095 * 65535

-- 236 for each of 4,096 places
abbrev pub max_expansions : ℕ
max_expansions = 236 * 4096

pub record Bounded (r : Result) : Type 0 where
  pub number : r.answer.number < numbers
  pub cost : r.answer.cost ≤ max_route
  pub expansions : (r.answer.number ≡ 0) ⊎ (r.answer.number ≡ 17) → r.answer.expansions ≤ max_expansions
  pub goal : r.answer.number ≡ 0 → goal_of r < max_places
  pub some_place : r.answer.number ≡ 0 → 2 ≤ r.answer.sheet_bytes
  pub sheet_there : r.answer.number ≡ 0 → r.answer.sheet_bytes ≤ length r.sheet
  pub last : r.answer.number ≡ 0 → last_on r.sheet r.answer.sheet_bytes ≡ goal_of r
