use Rattle.branch_commit.proofs.Committed.{committed}
use Rattle.branch_commit.proofs.laws.a_committed_statement_leaves_its_rows.Goals as goal

pub returns : goal.returns
returns c = λ base head sources s scanned names drawn now planned written ready later prepared rows table version branch is wrote kept still prepares keeps stands held.
    committed base head sources s scanned names drawn now planned written ready later prepared rows table version branch is wrote kept still prepares keeps stands held
