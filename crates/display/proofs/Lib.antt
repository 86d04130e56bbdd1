-- Laws of what is shown.
pub mod AsRead
