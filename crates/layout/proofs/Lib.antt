-- Laws of the work area: the map that it holds, its rows as they are walked, and labels and parents.
pub mod Held
pub mod Rows
pub mod Labels
