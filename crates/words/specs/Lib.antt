pub mod Bits
pub mod Strip
pub mod Words
pub mod Refusals
pub mod Handles
pub mod Calls
pub mod Working
