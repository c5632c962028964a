pub mod TokenLemmas
pub mod NumberLemmas
pub mod CutLemmas
pub mod FieldLemmas
pub mod FrontLemmas
pub mod OnceLemmas
pub mod SeenLemmas
pub mod HexLemmas
pub mod CaseLemmas
pub mod LineLemmas
mod LineFacts
