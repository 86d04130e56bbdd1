-- Lanes as keys of two words, and how they come to lie in order.
pub mod Keys
pub mod Rows
