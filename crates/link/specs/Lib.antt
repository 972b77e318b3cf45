pub mod Rule
pub mod All
pub mod Starred
