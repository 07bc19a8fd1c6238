pub mod Regions
pub mod Places
pub mod NodeWords
pub mod Directory
pub mod Held
pub mod Memory
pub mod Frames
pub mod Stacks
