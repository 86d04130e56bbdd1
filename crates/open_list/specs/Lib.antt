-- The open list as a list of keys, and the tree that holds it.
pub mod Keys
pub mod Size
pub mod Entry
pub mod Hand
pub mod Tree
pub mod Loops
