-- A tidy tries a rest, once and only where one is due.
pub mod Exchanges
pub mod Heard
pub mod Resting
pub mod RestsDue
pub mod TidyDeaths
