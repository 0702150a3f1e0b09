use Rattle.std.proofs.Common.{◌≡◌, List, ℕ, ◌++◌, codes, string_bytes, IfOk, subst}
use Rattle.table_names.specs.FileNames.{named}
use Rattle.table_names.proofs.names.Names.metadata_path.Goals as goal

pub returns : goal.returns
returns c = subst (λ (session : List ℕ). IfOk c.name_in.result (λ path. string_bytes path ≡ c.args.location.now ++ (codes "/metadata/r" ++ named c.args.self.now.run session c.args.self.now.next (codes ".avro")))) c.as_str.ensures c.name_in.ensures
