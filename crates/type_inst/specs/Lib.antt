pub mod Listing
pub mod Reaching
pub mod Matching
pub mod Opening
pub mod Sizing
pub mod Judging
pub mod Fed
