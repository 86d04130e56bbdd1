-- Laws of a query underway, from the first place to its outcome.
pub mod Open
pub mod Settling
pub mod Counting
pub mod Front
pub mod Fewest
pub mod Regions
pub mod Listing
pub mod Coherence
pub mod Arcs
pub mod QueryUnderway
pub mod Expansions
pub mod Answers
