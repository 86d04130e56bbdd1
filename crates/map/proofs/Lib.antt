-- Laws of a map's size, and of the records of an input.
pub mod Sizes
pub mod RefusalLaws
pub mod Parts
pub mod Records
pub mod Reading
pub mod Items
pub mod Walks
pub mod Factors
