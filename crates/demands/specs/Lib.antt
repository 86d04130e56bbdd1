-- What the contracts of the public calls let a call come to, and the demand on the display.
pub mod Calls
pub mod WriterCalls
pub mod DayCalls
pub mod Display
