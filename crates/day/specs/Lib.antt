-- The report for a host, and words for the promises.
pub mod Host
pub mod Calls
