use Rattle.std.proofs.Common.{◌≡◌, filter, nat_eq}
use Rattle.std.specs.List.{starts_with}
use Rattle.store_core.proofs.names.with_prefix.Given as goal

abbrev pub invariant-loop-name : goal.invariant-loop-name
invariant-loop-name l = l.kept.items ≡ filter (λ name. starts_with nat_eq name l.prefix) l.yielded
