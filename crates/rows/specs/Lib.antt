pub mod Row
pub mod Read
pub mod Seen
