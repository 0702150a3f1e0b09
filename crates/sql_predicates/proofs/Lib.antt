pub mod CallerLemmas
mod FrontLaws
mod KindLaws
mod NormalFormLaws
