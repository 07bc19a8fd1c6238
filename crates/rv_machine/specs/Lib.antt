pub mod Access
pub mod Arithmetic
pub mod Effect
pub mod Kind
pub mod Registers
pub mod Steps
