-- The laws of bytes that are 0, passed on. Assumes nothing.
pub use Rattle.zeros.proofs.ZeroLaws.{zero_split, zero_none, zero_one, zero_number, zero_run}
