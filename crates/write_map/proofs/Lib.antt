-- Laws of what the program prints.
pub mod Printing
pub mod NeverShort
pub mod Examples
