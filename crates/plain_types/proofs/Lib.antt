mod AnswerLaws
mod AppendLaws
mod BagLaws
mod ByteOrderLaws
pub mod CallerLemmas
mod StepLaws
