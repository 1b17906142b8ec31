pub mod WorkTexts
pub mod Four
