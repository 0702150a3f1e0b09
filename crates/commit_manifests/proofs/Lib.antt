pub mod CallerLemmas
mod Conjunction
mod Every
mod ExactLaws
mod Held
mod ListedLaws
mod NumberLaws
mod ValueOrder
