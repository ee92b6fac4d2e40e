mod WindowLaws
mod BoundLaws
pub mod BurstLaws
