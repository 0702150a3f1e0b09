pub mod CallerLemmas
mod Digits
mod FilterLaws
mod KindLaws
mod LocalLaws
mod RunKinds
mod RunLaws
mod StatementLaws
mod Steps
mod Widths
