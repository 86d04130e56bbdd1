-- What a part of a list is.
pub mod Part
