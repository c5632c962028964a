pub mod SentItems
