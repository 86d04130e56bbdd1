-- What the display shows of a number and of a sheet.
pub mod Shown
