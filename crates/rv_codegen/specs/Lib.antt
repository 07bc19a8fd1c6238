pub mod Emitted
pub mod FrameWords
pub mod Constants
pub mod PlainItems
pub mod Forms
pub mod Admitted
pub mod Carried
pub mod Entering
