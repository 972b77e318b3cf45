-- The laws that the proofs of this crate and of request_cases cite.
pub mod DigestLaws
pub mod LinesLaws
