pub mod Machine
pub mod Scripts
pub mod Unit
pub mod Demand
pub mod Runner
pub mod Loop
pub mod Examples
