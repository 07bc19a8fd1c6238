pub mod Numbers
pub mod Drawn
pub mod Living
pub mod Ends
