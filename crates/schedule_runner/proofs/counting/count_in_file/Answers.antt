use Rattle.std.proofs.Common.{◌≡◌, ◌∙◌, ap, length, IfSome, ℕ, Option, Ok, subst}
use Rattle.std.proofs.lemmas.Result.{err_from_is_err_and}
use Rattle.avro_container.specs.declared.container.Container.{Container}
use Rattle.avro_container.specs.Container.{container_of}
use Rattle.table_metadata.specs.Metadata.{parts}
use Rattle.schedule_runner.proofs.CountLaws.{file_counted, file_fails}
use Rattle.schedule_runner.proofs.counting.count_in_file.Goals as goal

pub returns-in_err-bytes-clause-err : goal.returns-in_err-bytes-clause-err
returns-in_err-bytes-clause-err g c =
    let p = err_from_is_err_and c.from_residual.result c.from_residual.ensures.1 in
    rw (p.1, p.2) (λ store memory files is rows read. file_fails c.args.table.now (parts c.args.metadata.now) c.args.path.now files rows c.as_str.result.now c.in_err-bytes.field-0.0 c.as_str.ensures (c.in_err-bytes.ensures.answers store memory files is) read)

pub returns-in-Some-clause-ok : goal.returns-in-Some-clause-ok
returns-in-Some-clause-ok g c = λ files is rows read.
    file_counted c.args.table.now (parts c.args.metadata.now) c.args.path.now files rows c.as_str.result.now c.in_ok-bytes.bytes c.in-Some.count c.as_str.ensures (c.in_ok-bytes.ensures.answers files is)
    (λ found whole. subst (λ (counted : Option ℕ). IfSome counted (λ n. (c' : Container) → container_of c.as_slice.result.now ≡ Ok c' → n ≡ length c'.datums)) c.in-Some.is c.in_ok-count.ensures found (ap container_of c.as_slice.ensures ∙ whole)) read
