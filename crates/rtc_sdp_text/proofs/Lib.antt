pub mod DueSdp
pub mod RowSteps
