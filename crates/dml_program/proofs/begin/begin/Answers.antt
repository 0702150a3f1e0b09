use Rattle.table_metadata.specs.Metadata.{parts}
use Rattle.dml_program.proofs.Beginnings.{begun_is, opens, table_stops}
use Rattle.dml_program.proofs.begin.begin.Goals as goal

pub returns-clause-found : goal.returns-clause-found
returns-clause-found g c files told inputs given =
    begun_is c.args.table.now files c.args.script.now inputs c.in_ok-bytes.bytes c.in-Ok.opened.version
    (parts c.in-Ok.opened.metadata) c.in_ok-schema.schema c.in_ok-script.script (c.in_ok-bytes.ensures.found inputs given)
    (c.in-Ok.ensures.opened files told) c.in_ok-schema.ensures.found c.in_ok-script.ensures.found

pub returns-clause-open : goal.returns-clause-open
returns-clause-open g c files told = opens c.args.table.now files c.in-Ok.opened.version (parts c.in-Ok.opened.metadata) c.in_ok-schema.schema (c.in-Ok.ensures.opened files told) c.in_ok-schema.ensures.found

pub returns-in-Err-clause-refused : goal.returns-in-Err-clause-refused
returns-in-Err-clause-refused g c files told inputs given = table_stops c.args.table.now files c.args.script.now inputs _ c.in_ok-bytes.bytes c.in-Err.status (c.in_ok-bytes.ensures.found inputs given) (c.in-Err.ensures.refused files told)
