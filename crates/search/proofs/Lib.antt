-- Laws of the rounds underway.
pub mod FoundRoutes
pub mod RoundsUnderway
pub mod RoundTurns
