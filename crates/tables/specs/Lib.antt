pub mod Tables
pub mod PhyBytes
