-- The laws that the proofs of this crate and of the crates above cite.
pub mod CodesLaws
pub mod TableLaws
pub mod KnownLaws
