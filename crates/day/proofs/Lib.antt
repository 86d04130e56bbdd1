-- The page of promises, the laws under it, and computed days.
pub mod Telling
pub mod SameJobs
pub mod LargestDay
pub mod Promises
pub mod Runs
