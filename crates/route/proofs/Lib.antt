-- Laws of what the program prints.
pub mod Sheets
pub mod Printing
pub mod Examples
