pub mod Table
pub mod RowChanges
pub mod DeclaredMedia
pub mod ParsedLines
pub mod MidIndex
pub mod NamedMids
pub mod Verdict
pub mod WhyText
