pub mod Pieces
pub mod Nests
pub mod LineParts
pub mod LineBack
pub mod BodyBack
pub mod WordsBack
pub mod TextBack
pub mod Spelling
