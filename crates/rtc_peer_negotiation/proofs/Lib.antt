pub mod Counts
pub mod ConfirmLemmas
pub mod FollowLemmas
pub mod GrowthLemmas
pub mod MoveLemmas
pub mod AcceptanceLemmas
pub mod AnswerLemmas
pub mod OfferLemmas
