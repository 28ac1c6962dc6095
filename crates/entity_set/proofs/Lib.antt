pub mod Words
pub mod SetBits
pub mod SetExchanges
