use Rattle.std.proofs.Common.{◌≡◌, map, take}
use Rattle.run_report.specs.Texts.{field_of}
use Rattle.run_report.proofs.records.fields_of.Given as goal

abbrev pub invariant-loop-value : goal.invariant-loop-value
invariant-loop-value l = map (λ f. f.items) l.fields.items ≡ map field_of (take l.value-index l.row)
