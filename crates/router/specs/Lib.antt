-- The promise of the public call, and of its steps.
pub mod Call
pub mod Steps
