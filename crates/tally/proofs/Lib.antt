-- The laws that the proofs of this crate and of the crates above cite.
pub mod Chunks
pub mod KindsLaws
pub mod TotalsLaws
pub mod RecordLaws
