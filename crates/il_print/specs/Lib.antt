pub mod Spaces
pub mod ClassNames
pub mod Forms
pub mod Operands
pub mod Marks
pub mod Parts
pub mod Accepted
