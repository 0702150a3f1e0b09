use Rattle.std.specs.declared.cmp.Ordering.TheVariants.{Less, Greater}
use Rattle.std.proofs.lemmas.List.Folds.{Any-from_list_any, list_any-from_Any}
use Rattle.commit_manifests.specs.Rows.{has_null}
use Rattle.commit_manifests.proofs.ExactLaws.{least_covers, greatest_covers, held}
use Rattle.commit_manifests.proofs.laws.a_summary_is_exact.Goals as goal

pub returns-clause-nulls : goal.returns-clause-nulls
returns-clause-nulls c place entries = (Any-from_list_any (has_null place) entries, list_any-from_Any (has_null place) entries)

pub returns-clause-least : goal.returns-clause-least
returns-clause-least c = least_covers

pub returns-clause-greatest : goal.returns-clause-greatest
returns-clause-greatest c = greatest_covers

pub returns-clause-lower : goal.returns-clause-lower
returns-clause-lower c = held Less

pub returns-clause-upper : goal.returns-clause-upper
returns-clause-upper c = held Greater
