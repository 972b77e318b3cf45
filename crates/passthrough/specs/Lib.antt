pub mod Passthrough
