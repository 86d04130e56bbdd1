-- What loading asks and leaves, and what each of its passes does.
pub mod Load
pub mod Loaded
