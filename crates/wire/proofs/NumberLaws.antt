-- The laws of numbers as bytes, passed on. Assumes nothing.
pub use Rattle.numbers.proofs.NumberLaws.{length_bytes, number_bytes, Bytes, bytes_part, word_back}
