-- The laws that the proofs of this crate and of the crates above cite.
pub mod StepsLaws
pub mod Laws
pub mod AcceptedLaws
