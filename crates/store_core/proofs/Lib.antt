pub mod CallerLemmas
mod FilesLemmas
mod MovesLemmas
mod WrittenLemmas
