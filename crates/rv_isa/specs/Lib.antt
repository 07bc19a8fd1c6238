pub mod Assembly
pub mod Reading
pub mod Row
pub mod Word
