pub mod Check
pub mod Starred
