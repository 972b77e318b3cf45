pub mod Staged
pub mod Adapter
pub mod Changed
