pub mod ByteFields
pub mod RecordLemmas
pub mod PieceLemmas
pub mod ReceiverLaw
pub mod WorkedRows
