pub mod ExtensionLemmas
pub mod MidLemmas
pub mod MidSetLemmas
