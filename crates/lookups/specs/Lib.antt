pub mod Signature
pub mod Conversion
pub mod ScsiAddress
pub mod DeviceAddress
