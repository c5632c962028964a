pub mod TableLemmas
pub mod RowChangeLemmas
pub mod DeclaredLemmas
pub mod MidIndexLemmas
pub mod NamedLemmas
