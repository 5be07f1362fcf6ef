pub mod Faults
pub mod KindAnswers
