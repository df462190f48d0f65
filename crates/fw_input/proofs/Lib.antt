pub mod DecisionLemmas
pub mod FillLemmas
pub mod JudgedLemmas
pub mod LineLemmas
pub mod NextLemmas
pub mod PlaceLemmas
pub mod StepLemmas
