-- The laws that the proofs of this crate and of the crates above cite.
pub mod Chunks
pub mod PinoutLaws
pub mod Laws
