pub mod Tree
pub mod Positions
pub mod Substitution
pub mod Printed
pub mod Same
