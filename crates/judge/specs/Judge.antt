-- What a judgement says: a refusal, or of an accepted input what it states.
use Rattle.std.specs.Prelude.{◌≡◌, List, ℕ, Result, Ok}
use Rattle.map.specs.declared.Job.{Job}
use Rattle.map.specs.declared.refusal.Refusal.{Refusal}
use Rattle.map.specs.Jobs.{States}
use Rattle.map.specs.Refusals.{refusal_number}
use Rattle.model.specs.Framing.{frame}
use Rattle.model.specs.Refusals.{input_refusal}

pub record Judged (input : List ℕ) (r : Result Job Refusal) : Type 0 where
  pub number : refusal_number r ≡ input_refusal (frame input)
  pub states : (j : Job) → r ≡ Ok j → States input j

-- no condition of the input itself holds, and the job is what it states
pub record Passes (input : List ℕ) (j : Job) : Type 0 where
  pub number : input_refusal (frame input) ≡ 0
  pub states : States input j
