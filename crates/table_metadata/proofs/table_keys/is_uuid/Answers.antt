use Rattle.std.proofs.Common.{◌≡◌, true, false, Option, Some, None, is_some, refl}
use Rattle.uuid.specs.Text.{parsed}
use Rattle.table_metadata.specs.TableKeys.{is_uuid}
use Rattle.table_metadata.proofs.table_keys.is_uuid.Goals as goal

-- an option that can't be Some is None
none_else : {X : Type 0} → (o : Option X) → ((u : X) × (o ≡ Some u) → false ≡ true) → false ≡ is_some o
none_else None h = refl
none_else (Some x) h = h (x, refl)

pub returns-in-Err : goal.returns-in-Err
unfolding is_uuid
returns-in-Err c = none_else (parsed c.args.text.now) c.in-Err.ensures.ok.1
