pub mod Unread
pub mod Joined
pub mod Steps
pub mod Replies
pub mod Law
