-- Laws of a day: its entries, what they come to, the figures of that, and how it is reckoned.
pub mod Bounded
pub mod Tallying
pub mod ByKey
pub mod FigureLaws
pub mod EntryLaws
pub mod ResultLaws
pub mod OneRecord
pub mod Running
pub mod Reckonings
