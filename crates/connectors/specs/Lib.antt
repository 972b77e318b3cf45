pub mod Pinout
pub mod Connector
