use Rattle.std.proofs.Common.{◌≡◌, ◌+◌, ℕ, List, [], ◌∷◌, ◌++◌, map, arith, ap, sym, ◌∙◌}
use Rattle.std.specs.List.{range_with_len}
use Rattle.std.proofs.lemmas.List.FromFn.{map-range_with_len_more}
use Rattle.kind_values.specs.declared.stats.Summary.{Summary}
use Rattle.commit_manifests.specs.Rows.{summary_at}
use Rattle.commit_manifests.proofs.summary.summaries_of.Goals as goal

pub loop-place-preserved : goal.loop-place-preserved
loop-place-preserved c =
    let one : ℕ → Summary = λ place. summary_at place c.args.entries.now in
    let more : map one (range_with_len 0 (c.loop-place.place + 1)) ≡ map one (range_with_len 0 c.loop-place.place) ++ one c.loop-place.place ∷ [] = map-range_with_len_more one 0 c.loop-place.place c.loop-place.place (omega arith) in
    c.in_ok-push.ensures.ok ∙ ap (λ (s : List Summary). s ++ c.in_ok-summary_at.field-0 ∷ []) c.loop-place.invariant ∙ ap (λ (x : Summary). map one (range_with_len 0 c.loop-place.place) ++ x ∷ []) c.in_ok-summary_at.ensures ∙ sym more
