pub mod Session
pub mod SessionTally
