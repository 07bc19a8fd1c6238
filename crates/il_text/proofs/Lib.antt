pub mod Longest
pub mod KindLemmas
pub mod ValueLemmas
pub mod FrontLemmas
pub mod Gaps
pub mod Steps
pub mod OneReading
pub mod FaultLemmas
