-- Where things lie in the work area, the map that it holds, and what a search keeps there.
pub mod Regions
pub mod Map
pub mod Rows
pub mod Labels
