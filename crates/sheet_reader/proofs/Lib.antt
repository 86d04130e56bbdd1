-- Laws of a sheet's record and its places, of how a read ends, and of the host's questions.
pub mod Framing
pub mod Records
pub mod Listing
pub mod Answers
pub mod Outcomes
