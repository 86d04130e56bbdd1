-- Laws of what the program prints.
pub mod Lines
pub mod Counts
pub mod Goals
pub mod Printing
