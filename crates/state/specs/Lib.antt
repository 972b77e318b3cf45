pub mod State
pub mod Open
