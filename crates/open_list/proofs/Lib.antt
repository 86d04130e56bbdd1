-- Laws of the tree and of the place in hand.
pub mod Eight
pub mod Eightfold
pub mod Stores
pub mod Replays
pub mod Roots
pub mod Clears
pub mod Hand
pub mod Structure
pub mod Laws
