-- What the plan of a statement fixes on a branch as it was read.
use Rattle.sql_statements.specs.declared.statement.Statement.{Statement}
use Rattle.table_state.specs.declared.state.State.{State}
use Rattle.change_sets.specs.declared.change.Plan.{Plan}
use Rattle.session_machine.specs.Plans.{plan_by}

abbrev pub plan_of : State → Statement → Plan
plan_of base s = plan_by base.version base.metadata.properties s
