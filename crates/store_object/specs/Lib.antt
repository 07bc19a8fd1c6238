pub mod Store
pub mod Answer
pub mod Replay
pub mod World
pub mod Growth
pub mod Held
pub mod State
