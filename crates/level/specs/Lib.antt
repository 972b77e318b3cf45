pub mod Setting
pub mod Text
pub mod Need
pub mod Ranges
pub mod Starred
