pub mod Places
pub mod PlaceTables
pub mod Messages
pub mod Contents
pub mod Calls
pub mod Datagrams
pub mod PlainMeaning
pub mod PlainLaws
