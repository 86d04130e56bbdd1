-- Laws of the sheet area as it is written.
pub mod Follows
pub mod Counting
pub mod Places
pub mod Sheets
