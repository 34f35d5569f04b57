pub mod DecisionLaws
pub mod InputLaws
