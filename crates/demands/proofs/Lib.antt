-- The demands, of the public calls as their contracts give them.
pub mod Calls
pub mod DayCalls
pub mod Display
