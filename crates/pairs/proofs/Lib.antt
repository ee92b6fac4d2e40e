pub mod JoinLaws
pub mod CheckLaws
pub mod IntLaws
pub mod SmallLaws
