use Rattle.commit_builder.proofs.Next.{next_rows}
use Rattle.commit_builder.proofs.row_laws.the_next_version_has_the_rows.Goals as goal

pub returns : goal.returns
returns c = λ head change names now old files later prepared left written is kept none proper few spelled laid_on contents prepares keeps stands left_read written_read.
    next_rows head change names now old files later prepared left written is kept none proper few spelled laid_on contents prepares keeps stands left_read written_read
