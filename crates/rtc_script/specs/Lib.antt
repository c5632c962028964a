pub mod Lines
pub mod Script
pub mod Steps
pub mod Settings
pub mod Words
pub mod Numbers
pub mod ChannelParts
