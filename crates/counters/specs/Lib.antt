pub mod Tree
pub mod Record
pub mod Promises
pub mod Calls
pub mod Working
pub mod Building
pub mod Descent
