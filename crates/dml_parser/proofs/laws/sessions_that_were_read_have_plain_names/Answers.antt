use Rattle.dml_parser.proofs.ScriptLaws.{are_plain, are_utf8, have_no_hyphen, have_no_slash}
use Rattle.dml_parser.proofs.laws.sessions_that_were_read_have_plain_names.Goals as goal

pub returns-clause-plain : goal.returns-clause-plain
returns-clause-plain c = are_plain

pub returns-clause-text : goal.returns-clause-text
returns-clause-text c = are_utf8

pub returns-clause-no_hyphen : goal.returns-clause-no_hyphen
returns-clause-no_hyphen c = have_no_hyphen

pub returns-clause-no_slash : goal.returns-clause-no_slash
returns-clause-no_slash c = have_no_slash
