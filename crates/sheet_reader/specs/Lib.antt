-- How the code's values stand for the definitions', and the definitions that the contracts cite.
pub mod Sheets
pub mod Listing
pub mod Read
