pub mod CallerLemmas
mod CopyLaws
mod NameLaws
mod PieceLaws
mod PutLaws
mod WriteLaws
mod WrittenRows
