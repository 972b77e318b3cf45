pub mod Fields
pub mod Patch
