pub mod Closed
pub mod Fetches
pub mod Labels
