pub mod PendingOffer
pub mod EqualOffers
pub mod Held
pub mod TableAfter
pub mod WrongLines
pub mod Plans
