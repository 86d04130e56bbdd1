-- Laws of the passes, and how the last one leaves the map.
pub mod Items
pub mod Counting
pub mod Sums
pub mod Placing
pub mod Marking
pub mod Regions
pub mod Known
pub mod Passes
pub mod Loading
