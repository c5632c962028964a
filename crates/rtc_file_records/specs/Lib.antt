pub mod Records
pub mod RecordView
pub mod Receiving
pub mod FileReceiver
pub mod Sending
pub mod FileSender
pub mod Laws
