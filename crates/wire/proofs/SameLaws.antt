-- The laws of bytes compared, passed on. Assumes nothing.
pub use Rattle.compare.proofs.SameLaws.{same_refl, same_eq, ne_same}
