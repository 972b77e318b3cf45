-- The laws that the proofs of this crate and of the crates above cite.
pub mod KeptLaws
pub mod SpinUpLaws
pub mod AllLaws
pub mod StarredLaws
