pub mod EarlierNumbers
