-- The papers' number of each refusal.
use Rattle.std.specs.Prelude.{ℕ, Result, Ok, Err}
use Rattle.map.specs.declared.refusal.Refusal.{Refusal}
use Rattle.map.specs.declared.refusal.Refusal.TheVariants.{Broken, UnknownKind, WrongLength, WrongHead, WrongSize, OutsideMap, FreeArc}
use Rattle.map.specs.declared.refusal.Refusal.TheVariants.{LargeEstimate, TwoEstimates, WrongJob, JobOutsideMap, WrongGoals, GoalEstimate}
use Rattle.map.specs.declared.refusal.Refusal.TheVariants.{ShortWork, ShortSheet, WrongMeasure, WrongWait, WrongFactors}

abbrev pub number_of : Refusal → ℕ
number_of Broken = 1
number_of UnknownKind = 2
number_of WrongLength = 3
number_of WrongHead = 4
number_of WrongSize = 5
number_of OutsideMap = 6
number_of FreeArc = 7
number_of LargeEstimate = 8
number_of TwoEstimates = 9
number_of WrongJob = 10
number_of JobOutsideMap = 11
number_of WrongGoals = 12
number_of GoalEstimate = 13
number_of ShortWork = 14
number_of ShortSheet = 15
number_of WrongMeasure = 20
number_of WrongWait = 21
number_of WrongFactors = 22

-- 0 is acceptance
abbrev pub refusal_number : {A : Type 0} → Result A Refusal → ℕ
refusal_number (Ok x) = 0
refusal_number (Err r) = number_of r
