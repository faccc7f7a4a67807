pub mod FirstFault
pub mod SomeWrong
pub mod PairOrder
pub mod SectionLoop
pub mod AsWritten
pub mod RightSections
pub mod TakesReports
