pub mod Number
pub mod Same
