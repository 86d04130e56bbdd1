-- The promise of the search, and its rounds underway.
pub mod Rounds
pub mod Underway
