use Rattle.std.proofs.Common.{◌≡◌, ◌∙◌, true, List, Option, None, Err, length, option_map, ap, refl, sym, subst}
use Rattle.row_values.specs.Rows.{AreRows}
use Rattle.row_values.specs.declared.schema.Column.{Column}
use Rattle.sql_predicates.specs.declared.pred.Pred.{Pred}
use Rattle.sql_statements.specs.Effects.{refusal}
use Rattle.sql_statements.specs.Filter.{filter_of}
use Rattle.sql_statements.specs.Fits.{are_wide}
use Rattle.store_core.specs.Files.{Files, KeepsFiles}
use Rattle.table_metadata.specs.Metadata.{parts}
use Rattle.table_state.specs.Live.{data_files_of}
use Rattle.change_sets.specs.declared.scanned.Decisions.{Decisions}
use Rattle.change_sets.specs.declared.scanned.ScannedFile.{ScannedFile}
use Rattle.table_scan.specs.Scanning.{scanned_at}
use Rattle.cow_writer.specs.Copies.{behind, change_of, files_after, pieces_in}
use Rattle.change_sets.specs.Deciding.{written_of}
use Rattle.cow_writer.specs.Reading.{AreShort}
use Rattle.table_scan.specs.Decisions.{decisions_of, hit_rows}
use Rattle.branch_commit.specs.Committing.{columns_of, decided_by, filter_on}
use Rattle.branch_commit.proofs.PlanLaws.{columns_are, err_is, hits_are_wide, is_ready, ok_is, two, written_fit}
use Rattle.branch_commit.proofs.planning.plan_on.Goals as goal

-- src/planning.rt:144:25
pub scan_hits-requires-clause-filter : goal.scan_hits-requires-clause-filter
scan_hits-requires-clause-filter g c =
    c.in_ok-filter.ensures
    ∙ ap (λ (cs : List Column). filter_of (length cs) c.args.statement.now) (c.as_slice-columns.ensures ∙ sym (columns_are c.args.base c.args.schema.now c.requires.schema))

-- src/planning.rt:146:23
pub returns-in-Err-clause-err : goal.returns-in-Err-clause-err
returns-in-Err-clause-err g c not_store not_memory files is =
    let filter : c.in_ok-filter.filter ≡ filter_on c.args.base c.args.statement.now =
    c.in_ok-filter.ensures
    ∙ ap (λ (cs : List Column). filter_of (length cs) c.args.statement.now) (c.as_slice-columns.ensures ∙ sym (columns_are c.args.base c.args.schema.now c.requires.schema)) in
    subst (λ (pred : Pred). scanned_at c.args.base.table (parts c.args.base.metadata) pred (data_files_of c.args.base.head) files ≡ Err c.in-Err.fault) filter (c.in-Err.ensures.err not_store not_memory files is)

-- src/planning.rt:149:27
pub decide-requires-clause-rows : goal.decide-requires-clause-rows
decide-requires-clause-rows g c =
    subst (λ (scanned : List ScannedFile). are_wide (length c.as_slice-columns.result.now) (hit_rows scanned) ≡ true) (sym c.as_slice-scanned.ensures)
    (subst (λ (cs : List Column). are_wide (length cs) (hit_rows c.in-Ok.scanned) ≡ true) (sym c.as_slice-columns.ensures) (hits_are_wide c.args.base c.args.schema.now c.in-Ok.scanned c.requires.schema c.in-Ok.ensures.rows))

-- src/planning.rt:151:21
pub returns-in-Err-2-clause-outcome : goal.returns-in-Err-2-clause-outcome
returns-in-Err-2-clause-outcome g c files is = (
  c.requires.there,
  record {
    scanned = c.in-Ok.scanned;
    hit = c.in-Ok.ensures.ok files is;
    refused =
        ap (λ (cs : List Column). refusal cs c.args.sources.now c.args.statement.now (hit_rows c.in-Ok.scanned)) (columns_are c.args.base c.args.schema.now c.requires.schema ∙ sym c.as_slice-columns.ensures)
        ∙ ap (λ (scanned : List ScannedFile). refusal c.as_slice-columns.result.now c.args.sources.now c.args.statement.now (hit_rows scanned)) (sym c.as_slice-scanned.ensures)
        ∙ err_is c.in_ok-decisions.field-0 c.in-Err-2.why _ c.in-Err-2.is c.in_ok-decisions.ensures.refused;
    files = c.scan_hits.ensures.files ∙ is;
    rest = refl;
  },
)

-- src/planning.rt:153:11
pub write-requires-clause-rows : goal.write-requires-clause-rows
write-requires-clause-rows g c =
    let scanned = c.in-Ok.scanned in
    let decisions = c.in-Ok-2.decisions in
    let schema = c.args.schema.now in
    let is : decisions ≡ decisions_of c.args.sources.now c.args.statement.now (length schema.columns) scanned (hit_rows scanned) =
    ok_is c.in_ok-decisions.field-0 decisions _ c.in-Ok-2.is c.in_ok-decisions.ensures.decided
    ∙ ap (λ (cs : List Column). decisions_of c.args.sources.now c.args.statement.now (length cs) c.as_slice-scanned.result.now (hit_rows c.as_slice-scanned.result.now)) c.as_slice-columns.ensures
    ∙ ap (λ (sc : List ScannedFile). decisions_of c.args.sources.now c.args.statement.now (length schema.columns) sc (hit_rows sc)) c.as_slice-scanned.ensures in
    let none : refusal schema.columns c.args.sources.now c.args.statement.now (hit_rows scanned) ≡ None =
    ap (λ (cs : List Column). refusal cs c.args.sources.now c.args.statement.now (hit_rows scanned)) (sym c.as_slice-columns.ensures)
    ∙ ap (λ (sc : List ScannedFile). refusal c.as_slice-columns.result.now c.args.sources.now c.args.statement.now (hit_rows sc)) (sym c.as_slice-scanned.ensures)
    ∙ ok_is c.in_ok-decisions.field-0 decisions _ c.in-Ok-2.is c.in_ok-decisions.ensures.accepted in
    subst (λ (sc : List ScannedFile). AreRows (columns_of c.args.base) (written_of sc decisions)) (sym c.as_slice-scanned.ensures)
    (written_fit c.args.base schema c.args.sources.now c.args.statement.now scanned decisions c.requires.schema c.requires.fits c.in-Ok.ensures.rows is none)

-- src/planning.rt:141:1
pub returns-in-Ok-write-clause-outcome : goal.returns-in-Ok-write-clause-outcome
returns-in-Ok-write-clause-outcome g c files told =
    let base = c.args.base in
    let sources = c.args.sources.now in
    let s = c.args.statement.now in
    let names = c.args.names.now in
    let scanned = c.in-Ok.scanned in
    let decisions = c.in-Ok-2.decisions in
    let schema = c.args.schema.now in
    let same : c.as_slice-scanned.result.now ≡ scanned = c.as_slice-scanned.ensures in
    let is : decisions ≡ decisions_of sources s (length schema.columns) scanned (hit_rows scanned) =
    ok_is c.in_ok-decisions.field-0 decisions _ c.in-Ok-2.is c.in_ok-decisions.ensures.decided
    ∙ ap (λ (cs : List Column). decisions_of sources s (length cs) c.as_slice-scanned.result.now (hit_rows c.as_slice-scanned.result.now)) c.as_slice-columns.ensures
    ∙ ap (λ (sc : List ScannedFile). decisions_of sources s (length schema.columns) sc (hit_rows sc)) same in
    let none : refusal schema.columns sources s (hit_rows scanned) ≡ None =
    ap (λ (cs : List Column). refusal cs sources s (hit_rows scanned)) (sym c.as_slice-columns.ensures)
    ∙ ap (λ (sc : List ScannedFile). refusal c.as_slice-columns.result.now sources s (hit_rows sc)) (sym same)
    ∙ ok_is c.in_ok-decisions.field-0 decisions _ c.in-Ok-2.is c.in_ok-decisions.ensures.accepted in
    let columns = columns_are base schema c.requires.schema in
    let decided : decisions ≡ decided_by base scanned sources s = is ∙ ap (λ (cs : List Column). decisions_of sources s (length cs) scanned (hit_rows scanned)) (sym columns) in
    let filter : c.in_ok-filter.filter ≡ filter_on base s = c.in_ok-filter.ensures ∙ ap (λ (cs : List Column). filter_of (length cs) s) (c.as_slice-columns.ensures ∙ sym columns) in (
      c.requires.there,
      is_ready sources s names base files (g.S.Store.files c.scan_hits.new.store) (g.S.Store.files c.write.new.store) c.write.new.names c.in-Ok-write.pending scanned (c.scan_hits.ensures.files ∙ told) c.in-Ok-write.ensures.read c.in-Ok-write.ensures.fixed
          (record { loaded = c.requires.loaded files told; reads = c.in-Ok.ensures.ok files told; accepted = ap (λ (cs : List Column). refusal cs sources s (hit_rows scanned)) columns ∙ none })
          (c.in-Ok-write.ensures.change ∙ ap (λ (pred : Pred). change_of base c.as_slice-scanned.result.now decisions pred names) filter
          ∙ ap (λ (sc : List ScannedFile). change_of base sc decisions (filter_on base s) names) same
          ∙ ap (λ (d : Decisions). change_of base scanned d (filter_on base s) names) decided)
          (subst (λ (d : Decisions). AreRows (columns_of base) (written_of scanned d)) decided (written_fit base schema sources s scanned decisions c.requires.schema c.requires.fits c.in-Ok.ensures.rows is none))
          (two (λ sc d. AreShort (columns_of base) (pieces_in base sc d)) c.as_slice-scanned.result.now scanned decisions (decided_by base scanned sources s) same decided c.in-Ok-write.ensures.short)
          (two (λ sc d. g.S.Store.files c.write.new.store ≡ option_map (files_after base sc d names) (g.S.Store.files c.scan_hits.new.store)) c.as_slice-scanned.result.now scanned decisions (decided_by base scanned sources s) same decided c.in-Ok-write.ensures.files)
          (two (λ sc d. c.write.new.names ≡ behind (length (pieces_in base sc d)) names) c.as_slice-scanned.result.now scanned decisions (decided_by base scanned sources s) same decided c.in-Ok-write.ensures.names),
    )

-- src/planning.rt:141:1
pub returns-in-Ok-write-clause-kept : goal.returns-in-Ok-write-clause-kept
returns-in-Ok-write-clause-kept g c = subst (λ (old : Option Files). KeepsFiles old (g.S.Store.files c.write.new.store)) c.scan_hits.ensures.files c.write.ensures.kept

-- src/planning.rt:117:1
pub returns-clause-kept : goal.returns-clause-kept
returns-clause-kept g c = subst (λ (old : Option Files). KeepsFiles old (g.S.Store.files c.write.new.store)) c.scan_hits.ensures.files c.write.ensures.kept
