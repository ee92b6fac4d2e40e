pub mod BoolLaws
pub mod SameLaws
pub mod Sums
pub mod BitLaws
pub mod Wrapping
pub mod DigitLaws
mod LaneLaws
mod PairLaws
pub mod WordLaws
pub mod FillLaws
pub mod SearchLaws
mod TableLaws
mod SelectLaws
pub mod BlockLaws
mod BlockSelectLaws
pub mod ScanLaws
pub mod CheckLaws
pub mod StripLaws
pub mod SmallLaws
pub mod SpanLaws
