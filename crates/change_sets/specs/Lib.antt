pub mod Deciding
pub mod Laid
pub mod Same
pub mod Saying
pub mod Scanned
pub mod Verdict
