-- The laws that the proofs of this crate and of the crates above cite.
pub mod RowLaws
pub mod ReadLaws
pub mod ConversionsLaws
pub mod SameLaws
pub mod SeenLaws
pub mod Chunks
pub mod EqualLaws
