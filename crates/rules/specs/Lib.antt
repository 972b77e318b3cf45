pub mod Fields
pub mod Past
