pub mod AnsweringLaws
pub mod DecimalLaws
pub mod FrontLaws
pub mod HexLaws
pub mod InputLines
pub mod PositionLaws
