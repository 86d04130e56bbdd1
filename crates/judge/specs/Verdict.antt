-- How the conditions are looked for: group by group, each group as soon as what it reads is known to stand there.
use Rattle.std.specs.Prelude.{◌≡◌, Bool, false, cond, ◌||◌, List, ℕ, ◌+◌, ◌*◌, ◌≤◌, ltb, length}
use Rattle.judge.specs.declared.survey.Survey.{Survey}
use Rattle.judge.specs.Numbers.{no_number, number_or, given_number}
use Rattle.judge.specs.Survey.{placed, MarksTell, Stating}
use Rattle.map.specs.Items.{job_of, InForce}
use Rattle.model.specs.Framing.{frame}
use Rattle.model.specs.Items.{items}
use Rattle.model.specs.Limits.{max_places, max_goals}
use Rattle.model.specs.Refusals.{wrong_job, form_rows, map_rows, factor_rows, cost_rows, job_rows, first_that_holds, first_of, input_refusal}
use Rattle.model.specs.Stated.{IsTable, stated_in, default}

abbrev pub goals_wrong : ℕ → Bool → Bool
goals_wrong k falls = ltb k 1 || ltb max_goals k || falls

abbrev pub goals_number : Bool → Bool → Bool → ℕ
goals_number outside wrong estimated = cond outside 11 (cond wrong 12 (cond estimated 13 no_number))

-- none of 1 to 4 holds
pub record Formed (input : List ℕ) (marks : List ℕ) (s : Survey) : Type 0 where
  pub form : first_that_holds (form_rows (frame input)) ≡ 0
  pub number : given_number s.refusal ≡ number_or no_number (map_rows (placed s.places (stated_in input)))
  pub states : Stating input marks s

-- none of 1 to 9 and 20 holds
pub record RightMap (input : List ℕ) (marks : List ℕ) (s : Survey) : Type 0 where
  pub form : first_that_holds (form_rows (frame input)) ≡ 0
  pub map : first_that_holds (map_rows (stated_in input)) ≡ 0
  pub places : s.places ≡ (stated_in input).size.places
  pub few : s.places ≤ max_places
  pub states : Stating input marks s
  pub number : input_refusal (frame input)
      ≡ first_of (first_that_holds (factor_rows (items (frame input).records)))
      (first_of (first_that_holds (cost_rows (stated_in input))) (first_that_holds (job_rows (items (frame input).records) (stated_in input))))

-- and not 22 either, so that these factors are in force
pub record RightFactors (input : List ℕ) (marks : List ℕ) (s : Survey) (factors : List ℕ) : Type 0 where
  pub right : RightMap input marks s
  pub in_force : factors ≡ (stated_in input).factors
  pub table : IsTable (stated_in input).factors
  pub number : input_refusal (frame input)
      ≡ first_of (first_that_holds (cost_rows (stated_in input))) (first_that_holds (job_rows (items (frame input).records) (stated_in input)))

-- none of 1 to 10 and 20 to 22 holds: the one job is the last record
pub record OneJob (input : List ℕ) (marks : List ℕ) (s : Survey) : Type 0 where
  pub places : s.places ≡ (stated_in input).size.places
  pub few : s.places ≤ max_places
  pub arcs : s.arcs ≡ (stated_in input).size.arcs
  pub factors : InForce input s.factors_at (stated_in input).factors
  pub default : s.default ≡ default (stated_in input)
  pub job : job_of input s.job ≡ (stated_in input).job
  pub goals_end : s.job.goals_at + 2 * s.job.goals ≡ length input
  pub estimated : MarksTell input marks s.places
  pub right : wrong_job (items (frame input).records) ≡ false
  pub number : input_refusal (frame input) ≡ first_that_holds (job_rows (items (frame input).records) (stated_in input))
