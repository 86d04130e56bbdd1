-- A call of the report, a program that answers calls, and a record of the tally, in short words for the promises.
use Rattle.std.specs.Prelude.{List, ℕ, get_or}
use Rattle.model.specs.Bytes.{Bytes}
use Rattle.tally.specs.declared.Tally.{Tally}
use Rattle.tally.specs.Tallied.{tally_with}
use Rattle.jobs.specs.Report.{DayResult, report}

-- what a call is given: the input's bytes, and what all that is lent holds
pub record DayCall : Type 0 where
  pub input : List ℕ
  pub work : List ℕ
  pub sheet : List ℕ
  pub tally : List Tally
  pub bytes : Bytes input

-- what the definition makes of it
abbrev pub reported : DayCall → DayResult
reported c = report c.input c.work c.sheet c.tally

-- a program, by its promise
abbrev pub Reporter : Type 1
Reporter = DayCall → DayResult → Type 0

-- the record of a tally for g; one that is not there has no routes
abbrev pub record_for : DayResult → ℕ → Tally
record_for r g = get_or r.tally g (tally_with 0 0 0)
