pub mod Kinds
pub mod Taken
pub mod Totals
pub mod Record
pub mod Texts
