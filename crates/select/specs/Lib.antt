pub mod Select
pub mod Past
pub mod Chosen
