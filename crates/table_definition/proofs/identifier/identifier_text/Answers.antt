use Rattle.std.proofs.Common.{◌≡◌, to_z-of_z, ℕ, true, List, Some, IfOk, is_some, subst, sym, ap, ◌∙◌}
use Rattle.std.proofs.lemmas.Result.{IfOk-weaker}
use Rattle.uuid.specs.Text.{hyphenated_text, lower, parsed}
use Rattle.table_metadata.specs.TableKeys.{is_uuid}
use Rattle.table_definition.specs.Identifier.{identifier_of}
use Rattle.table_definition.proofs.identifier.identifier_text.Goals as goal

uuid_text : (text id copy : List ℕ) → Some id ≡ parsed text → copy ≡ text → is_uuid copy ≡ true
unfolding is_uuid
uuid_text text id copy h e = rw e (ap is_some (sym h))

pub returns-clause-text : goal.returns-clause-text
returns-clause-text c =
    subst (λ (text : List ℕ). IfOk c.copy_of.result (λ x. x ≡ text))
    (c.encode_lower-text.ensures.text ∙ ap (hyphenated_text lower) (c.hyphenated.ensures ∙ c.identifier_of-identifier.ensures ∙ ap identifier_of (c.as_bytes.ensures.value ∙ (simp (to_z-of_z, c.ranges.now_ms) at c.in_ok-name.ensures))))
    c.copy_of.ensures

pub returns-clause-uuid : goal.returns-clause-uuid
returns-clause-uuid c =
    IfOk-weaker c.copy_of.result _ _ (λ copy e. uuid_text _ _ copy c.encode_lower-text.ensures.parsed e) c.copy_of.ensures
