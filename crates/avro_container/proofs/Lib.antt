mod Answered
mod Binds
mod BlockLaws
pub mod CallerLemmas
mod FileLaws
mod KeyLaws
mod LongLaws
mod Loops
mod MetaLaws
mod Pieces
mod TextLaws
mod Texts
