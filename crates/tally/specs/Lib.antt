-- What the functions over a tally leave.
pub mod Tallied
