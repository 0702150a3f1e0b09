use Rattle.std.proofs.Common.{◌≡◌, ℕ, List, ◌++◌, codes, string_bytes, IfOk, subst, ap, ◌∙◌}
use Rattle.table_names.specs.FileNames.{named}
use Rattle.table_names.specs.declared.names.Names.{Names}
use Rattle.table_names.proofs.names.Names.metadata_name.Goals as goal

pub returns-clause-name : goal.returns-clause-name
returns-clause-name c =
    let session = c.as_str.ensures ∙ ap (λ (names : Names). names.session) c.draw-number.ensures.drawn in
    let run = ap (λ (names : Names). names.run) c.draw-number.ensures.drawn in
    subst (λ (text : List ℕ). IfOk c.name_in.result (λ name. string_bytes name ≡ c.args.table.now ++ (codes "/metadata/r" ++ text)))
    (ap (λ n. named n c.as_str.result.now c.draw-number.result (codes ".avro")) run
    ∙ ap (λ (s : List ℕ). named c.args.self.now.run s c.draw-number.result (codes ".avro")) session
    ∙ ap (λ n. named c.args.self.now.run c.args.self.now.session n (codes ".avro")) c.draw-number.ensures.number)
    c.name_in.ensures
