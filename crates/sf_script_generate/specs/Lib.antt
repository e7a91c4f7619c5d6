pub mod Draws
pub mod GeneratedCalls
pub mod GeneratedScript
