-- What a pass over the arcs asks and gives, and what it keeps while under way.
pub mod Area
pub mod Scans
