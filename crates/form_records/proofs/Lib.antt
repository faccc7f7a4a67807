pub mod CheckLists
pub mod StepRuns
pub mod OperandScans
