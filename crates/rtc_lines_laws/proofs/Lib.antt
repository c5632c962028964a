mod LeftLines
mod LeftCodecs
mod OfferedLines
