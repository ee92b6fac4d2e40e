pub mod Merged
pub mod Calls
pub mod Working
