-- How the steps together keep the promise of the call.
pub mod Counting
pub mod Lent
pub mod Refusing
pub mod Routing
pub mod Sheet
pub mod Words
