pub mod WordParts
pub mod Numerals
pub mod Lines
pub mod LineFaults
pub mod LineTexts
pub mod PlainLines
pub mod Scripts
pub mod Texts
