-- The laws that the proofs of this crate and of the crates above cite.
pub mod Laws
pub mod StoredLaws
pub mod SameLaws
pub mod ZeroLaws
