-- A query's front, its state in the work area, and its promise.
pub mod Open
pub mod Front
pub mod Query
pub mod State
