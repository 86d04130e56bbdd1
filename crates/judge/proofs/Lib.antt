-- Laws of the passes, and how their results give the papers' number.
pub mod NumberLaws
pub mod RefusalLaws
pub mod MarkLaws
pub mod ItemLaws
pub mod FactorLaws
pub mod NoteLaws
pub mod SurveyLaws
pub mod WalkLaws
pub mod WaitLaws
pub mod GoalLaws
pub mod JudgeMap
pub mod JudgeFactors
pub mod JudgeCosts
pub mod JudgeJob
pub mod Passing
