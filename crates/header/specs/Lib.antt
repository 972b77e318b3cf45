pub mod Form
pub mod Srb
pub mod Linux
pub mod Sent
