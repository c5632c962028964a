pub mod MediaForm
pub mod Table
pub mod NameLengths
pub mod ItemForm
pub mod LineTexts
pub mod ConnectionTexts
pub mod MediaTexts
