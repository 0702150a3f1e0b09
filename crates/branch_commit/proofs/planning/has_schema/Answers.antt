use Rattle.std.proofs.Common.{◌≡◌, ◌∙◌, true, Some, Ok, ap, sym, subst}
use Rattle.plain_types.specs.Steps.{or_fault}
use Rattle.row_values.specs.declared.schema.TableSchema.{TableSchema}
use Rattle.row_values.specs.contracts.schema.TableSchemaPartialEq.TheImpl as schemas
use Rattle.table_metadata.specs.ById.{schema_with}
use Rattle.branch_commit.proofs.PlanLaws.{found_some, no_schema}
use Rattle.branch_commit.proofs.SameSchema.{schema_itself, schema_means}
use Rattle.branch_commit.proofs.planning.has_schema.Goals as goal

same : (one other : TableSchema) → Some one ≡ Some other → one ≡ other
same one other h = cc

pub returns-in-Some : goal.returns-in-Some
returns-in-Some c =
    let m = c.args.base.now.metadata in
    let there : schema_with m.current_schema m.schemas ≡ Some c.in-Some.current.now = sym c.in-Some.ensures in (
      λ yes. ap (or_fault no_schema) there ∙ ap Ok (schema_means c.in-Some.current.now c.args.schema.now (sym c.eq.ensures ∙ yes)),
      λ has.
          let is = same c.in-Some.current.now c.args.schema.now (sym there ∙ found_some no_schema (schema_with m.current_schema m.schemas) c.args.schema.now has) in
          c.eq.ensures ∙ subst (λ (s : TableSchema). schemas.ghosts.eq c.in-Some.current.now s ≡ true) is (schema_itself c.in-Some.current.now),
    )
