-- What a map's size is, and what the records of an input say.
pub mod Sizes
pub mod Refusals
pub mod Records
pub mod Items
pub mod Jobs
pub mod Walks
