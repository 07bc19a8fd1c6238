pub mod Effects
pub mod Control
pub mod Regions
pub mod Depths
pub mod Flow
pub mod Pass
pub mod FramePlans
