pub mod StepLines
pub mod Lines
