pub mod Layout
pub mod Starred
