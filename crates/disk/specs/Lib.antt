pub mod Disk
pub mod Said
pub mod Sector
pub mod Starred
