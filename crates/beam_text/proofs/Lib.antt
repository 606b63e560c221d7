pub mod Fronts
pub mod MadeLines
pub mod PlainBytes
pub mod Sorts
pub mod ValueTexts
pub mod Written
