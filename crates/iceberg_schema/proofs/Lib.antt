pub mod CallerLemmas
mod DecimalTexts
mod Items
mod NoFloats
mod SchemaSoundness
mod SpecSoundness
mod WidthLaws
mod WrittenKinds
mod WrittenNumbers
mod WrittenSchemas
mod WrittenSpecs
