-- The laws that the proofs of this crate and of the crates above cite.
pub mod FormLaws
pub mod LengthLaws
pub mod SentLaws
pub mod AccessLaws
