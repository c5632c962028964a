pub mod Faults
pub mod Feed
pub mod MemSink
pub mod MemSource
pub mod Programs
pub mod Saying
pub mod Tape
pub mod Writing
