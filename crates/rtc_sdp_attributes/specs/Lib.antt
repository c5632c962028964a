pub mod Forms
pub mod AttributeForms
pub mod AttributeTexts
pub mod PlainValues
