pub mod CallerLemmas
mod ColumnLaws
mod RowLaws
