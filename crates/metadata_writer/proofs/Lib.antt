pub mod CallerLemmas
mod CommitRead
mod CurrentAfter
mod Items
mod Kept
mod NewFits
mod NewRead
mod NewWithin
mod OptionalAfter
mod PlainAfter
mod ReadAfter
mod RefOrder
mod RefsAfter
mod StandAfter
mod Texts
mod Within
