mod Adding
pub mod CallerLemmas
mod Following
mod Laying
mod Manifests
mod NewIds
mod Next
mod NextHead
mod Numbers
mod Parts
mod FormLaws
mod Puts
mod Reading
mod Rewriting
mod Standing
