-- Numbers as bytes, as `numbers` defines them. Assumes nothing.
unfoldable pub use Rattle.numbers.specs.Number.{number, bytes}
