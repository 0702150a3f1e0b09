-- What other crates cite of the proofs here, by topic.

-- A script that was read has at most one session, with a plain name, and its statements are of the columns.
pub use Rattle.dml_parser.proofs.ScriptLaws.{are_read, are_short, are_utf8, have_no_slash}
