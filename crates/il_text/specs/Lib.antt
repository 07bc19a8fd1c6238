pub mod Bytes
pub mod Classes
pub mod Spelling
pub mod Tokens
pub mod Faults
pub mod Fronts
pub mod Places
pub mod Readings
