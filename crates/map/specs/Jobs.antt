-- What the records of an accepted input state, as numbers.
use Rattle.std.specs.Prelude.{◌≡◌, List, ℕ, ◌+◌, ◌*◌, length}
use Rattle.map.specs.declared.Job.{Job}
use Rattle.map.specs.Items.{InForce}
use Rattle.model.specs.Bytes.{u16s}
use Rattle.model.specs.Stated.{stated_in, default}

pub record States (input : List ℕ) (j : Job) : Type 0 where
  pub places : j.site.places ≡ (stated_in input).size.places
  pub arcs : j.site.arcs ≡ (stated_in input).size.arcs
  pub start : j.site.start ≡ (stated_in input).job.start
  pub growth : j.site.growth ≡ (stated_in input).growth
  pub allowance : j.allowance ≡ (stated_in input).job.allowance
  pub goals_end : j.goals_at + 2 * j.goals ≡ length input
  pub goals : u16s j.goals input j.goals_at ≡ (stated_in input).job.goals
  pub factors : InForce input j.factors_at (stated_in input).factors
  pub default : j.default ≡ default (stated_in input)
