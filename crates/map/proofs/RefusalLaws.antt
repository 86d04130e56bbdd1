-- The number of a refusal is one of the papers'. Assumes nothing.
use Prim.Native.Nat.{◌≤◌}
use native.Mathlib.Omega.{arith}
use Rattle.map.specs.declared.refusal.Refusal.{Refusal}
use Rattle.map.specs.declared.refusal.Refusal.TheVariants.{Broken, UnknownKind, WrongLength, WrongHead, WrongSize, OutsideMap, FreeArc}
use Rattle.map.specs.declared.refusal.Refusal.TheVariants.{LargeEstimate, TwoEstimates, WrongJob, JobOutsideMap, WrongGoals, GoalEstimate}
use Rattle.map.specs.declared.refusal.Refusal.TheVariants.{ShortWork, ShortSheet, WrongMeasure, WrongWait, WrongFactors}
use Rattle.map.specs.Refusals.{number_of}

pub number_within : (r : Refusal) → (1 ≤ number_of r) × (number_of r ≤ 22)
number_within Broken = (omega arith, omega arith)
number_within UnknownKind = (omega arith, omega arith)
number_within WrongLength = (omega arith, omega arith)
number_within WrongHead = (omega arith, omega arith)
number_within WrongSize = (omega arith, omega arith)
number_within OutsideMap = (omega arith, omega arith)
number_within FreeArc = (omega arith, omega arith)
number_within LargeEstimate = (omega arith, omega arith)
number_within TwoEstimates = (omega arith, omega arith)
number_within WrongJob = (omega arith, omega arith)
number_within JobOutsideMap = (omega arith, omega arith)
number_within WrongGoals = (omega arith, omega arith)
number_within GoalEstimate = (omega arith, omega arith)
number_within ShortWork = (omega arith, omega arith)
number_within ShortSheet = (omega arith, omega arith)
number_within WrongMeasure = (omega arith, omega arith)
number_within WrongWait = (omega arith, omega arith)
number_within WrongFactors = (omega arith, omega arith)
