pub mod Entity
pub mod Block
pub mod Change
