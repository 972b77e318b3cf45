-- The laws that the proofs of this crate cite.
pub mod RequestLaws
pub mod RunLaws
pub mod StateLaws
pub mod TallyLaws
