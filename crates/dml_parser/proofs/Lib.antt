pub mod CallerLemmas
mod FormLaws
mod ItemLaws
mod NameLaws
mod ScriptLaws
mod Stepwise
mod Texts
mod ValueLaws
