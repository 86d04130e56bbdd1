-- The seven numbers.
pub mod Numbers
