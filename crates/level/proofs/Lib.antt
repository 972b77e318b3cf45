-- The laws that the proofs of this crate and of the crates above cite.
pub mod EntryLaws
pub mod RangesLaws
pub mod ApartLaws
pub mod FewestLaws
pub mod FormulaLaws
pub mod BoundLaws
pub mod StarredLaws
