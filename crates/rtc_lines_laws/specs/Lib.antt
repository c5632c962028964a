pub mod RejectedLines
