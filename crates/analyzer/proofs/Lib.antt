pub mod ReportGrowth
pub mod RunEnd
pub mod CalleeSections
pub mod FunctionLoop
pub mod SectionWritten
pub mod OneFunction
pub mod FunctionSteps
pub mod Promises
