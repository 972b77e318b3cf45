pub mod Contents
pub mod Parse
