-- What is written to the sheet area.
pub mod Header
pub mod Places
pub mod Write
