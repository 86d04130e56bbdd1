-- What a line of numbers is, and what putting bytes into a text leaves.
pub mod Text
