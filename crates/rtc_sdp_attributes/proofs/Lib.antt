pub mod FormLemmas
pub mod WordLemmas
mod HashLemmas
pub mod PlaceLemmas
pub mod FingerprintLemmas
pub mod CandidateLemmas
pub mod PairLemmas
pub mod RtpmapLemmas
pub mod FmtpLemmas
mod AptLemmas
pub mod ExtmapLemmas
pub mod MsidLemmas
pub mod RidLemmas
pub mod SimulcastLemmas
pub mod SsrcLemmas
