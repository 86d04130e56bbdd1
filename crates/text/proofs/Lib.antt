-- Laws of numbers as text and of putting bytes into a text.
pub mod Decimals
pub mod Lines
pub mod Puts
pub mod Examples
