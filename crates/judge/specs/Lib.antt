-- What each pass of judging gives, and the promise of the whole.
pub mod Judge
pub mod Numbers
pub mod Marks
pub mod Survey
pub mod Factors
pub mod Waits
pub mod Goals
pub mod Verdict
