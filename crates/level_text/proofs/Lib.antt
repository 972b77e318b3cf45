-- The laws that the proofs of this crate cite.
pub mod EntriesLaws
pub mod MadeLaws
