-- The writer's definitions: its order, the canonical form, when inputs agree, the call with its promise, and the steps of the call.
pub mod Order
pub mod Canonical
pub mod Agree
pub mod Call
pub mod Steps
