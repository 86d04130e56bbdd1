-- Laws of the passes over the arcs and over the goals.
pub mod Least
pub mod Rows
pub mod NextLimit
pub mod ParentLaws
pub mod Goals
