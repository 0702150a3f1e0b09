mod Amounts
mod BoundLaws
pub mod CallerLemmas
mod Digits
mod Fewest
mod Octets
mod Steps
mod Texts
mod Written
