-- Bytes compared, as `compare` defines it. Assumes nothing.
unfoldable pub use Rattle.compare.specs.Same.{same_bytes, all_zero}
