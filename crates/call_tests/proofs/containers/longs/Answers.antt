use Rattle.std.proofs.Common.{◌≡◌, ◌^◌, ◌<◌, pos, w64, to_z, of_z, List, ◌++◌, ◌∷◌, [], ap, sym, subst, ◌∙◌, arith}
use Rattle.std.specs.List.{AllByRecursion}
use Rattle.std.proofs.Math.Facts.{to_z_pos}
use Rattle.avro_binary.specs.declared.datum.Datum.TheVariants as datum
use Rattle.avro_binary.specs.declared.datum.Datum as datums
use Rattle.avro_binary.specs.Shape.{long_shape}
use Rattle.avro_binary.specs.Spelling.{Fits, IsSignedOf}
use Rattle.avro_container.proofs.CallerLemmas.{one_more_long}
use Rattle.call_tests.proofs.containers.longs.Goals as goal

pub loop-n-preserved : goal.loop-n-preserved
loop-n-preserved c =
    let small : c.loop-n.n < 2 ^ 63 = omega arith in
    let same : to_z w64 (of_z w64 (pos c.loop-n.n)) ≡ pos c.loop-n.n = to_z_pos w64 small in
    let value : to_z w64 (of_z w64 c.from.result) ≡ pos c.loop-n.n = ap (λ z. to_z w64 (of_z w64 z)) c.from.ensures ∙ same in
    let items : c.push.new.self.items ≡ c.loop-n.datums.items ++ datum.Long (pos c.loop-n.n) ∷ [] = c.in_ok-push.ensures.items ∙ ap (λ z. c.loop-n.datums.items ++ datum.Long z ∷ []) value in
    subst (λ (ds : List datums.Datum). AllByRecursion (Fits long_shape) ds) (sym items) (one_more_long c.loop-n.datums.items (pos c.loop-n.n) c.loop-n.invariant small)
