pub mod CallerLemmas
mod Standing
