-- The laws that the proofs of this crate and of the crates above cite.
pub mod StoresLaws
pub mod WaysLaws
pub mod Laws
pub mod StarredLaws
pub mod AskedLaws
