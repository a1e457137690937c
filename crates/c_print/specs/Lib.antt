pub mod CText
pub mod CLines
pub mod CLineTexts
pub mod CTables
pub mod CHeaders
pub mod CGrammar
pub mod CTexts
