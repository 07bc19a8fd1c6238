pub mod Widths
pub mod Places
pub mod Named
pub mod Planned
pub mod Raising
pub mod Held
