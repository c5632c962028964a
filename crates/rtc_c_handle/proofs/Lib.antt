pub mod Names
pub mod Kept
pub mod Placed
pub mod Spent
pub mod Staged
pub mod Offered
pub mod Offering
