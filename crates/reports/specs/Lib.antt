pub mod Report
pub mod DriverInfo
pub mod Controller
pub mod ConnectorInfo
pub mod PhyInfo
