-- The laws that the proofs of the crates above cite.
pub mod NumberLaws
pub mod SameLaws
pub mod ZeroLaws
