pub mod PrintedCalls
pub mod Printing
pub mod ReasonExamples
