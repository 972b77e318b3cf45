-- The laws that the proofs of this crate and of case_lines cite.
pub mod Chunks
pub mod FieldsLaws
pub mod PatchLaws
