pub mod Records
pub mod Loops
pub mod PlainSteps
pub mod View
pub mod StoreState
pub mod StretchState
pub mod Sections
pub mod OperandReferences
