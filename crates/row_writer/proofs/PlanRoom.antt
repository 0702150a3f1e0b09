-- How many nodes a type that is put together has, and how deep they nest.
use Rattle.std.proofs.Common.{◌≡◌, ℕ, zero, suc, ◌+◌, ◌-◌, ◌≤◌, List, [], Bool, true, false, ◌&&◌, Option, Some, option_and_then, refl, ap, ◌∙◌, arith}
use Rattle.avro_binary.specs.Placed.{Placing, place_each, place_level, place_field}
use Rattle.row_writer.proofs.Tests.{first, second}
use Rattle.row_writer.proofs.Plans.{Plan, boolean_plan, int_plan, long_plan, bytes_plan, text_plan, date_plan, instant_plan, decimal_plan, pairs_plan, optional_plan, items_plan, record_plan, Plans, no_plans, more_plans, fold_plan, fold_plans}

abbrev mutual
  pub nodes : Plan → ℕ
  nodes boolean_plan = 1
  nodes int_plan = 1
  nodes long_plan = 1
  nodes bytes_plan = 1
  nodes text_plan = 1
  nodes date_plan = 1
  nodes (instant_plan utc) = 1
  nodes (decimal_plan name precision scale) = 1
  nodes (pairs_plan p) = 1 + nodes p
  nodes (optional_plan p) = 2 + nodes p
  nodes (items_plan element p) = 1 + nodes p
  nodes (record_plan name ps) = 1 + nodes_of ps

  pub nodes_of : Plans → ℕ
  nodes_of no_plans = 0
  nodes_of (more_plans id name p ps) = nodes p + nodes_of ps

abbrev is_some_depth : ℕ → Bool
is_some_depth zero = false
is_some_depth (suc d) = true

abbrev mutual
  pub within : Plan → ℕ → Bool
  within boolean_plan d = is_some_depth d
  within int_plan d = is_some_depth d
  within long_plan d = is_some_depth d
  within bytes_plan d = is_some_depth d
  within text_plan d = is_some_depth d
  within date_plan d = is_some_depth d
  within (instant_plan utc) d = is_some_depth d
  within (decimal_plan name precision scale) d = is_some_depth d
  within (pairs_plan p) zero = false
  within (pairs_plan p) (suc d) = within p d
  within (optional_plan p) zero = false
  within (optional_plan p) (suc d) = is_some_depth d && within p d
  within (items_plan element p) zero = false
  within (items_plan element p) (suc d) = within p d
  within (record_plan name ps) zero = false
  within (record_plan name ps) (suc d) = all_within ps d

  pub all_within : Plans → ℕ → Bool
  all_within no_plans d = true
  all_within (more_plans id name p ps) d = within p d && all_within ps d

abbrev placing : Plan → Placing
placing p = fold_plan Placing Placing place_level place_field p

abbrev placings : Plans → List Placing
placings ps = fold_plans Placing Placing place_level place_field ps

-- a node with nothing inside
leaf : (d left : ℕ) (p : Placing) → ((depth more : ℕ) → p (suc depth) (suc more) ≡ Some more) → is_some_depth d ≡ true → 1 ≤ left → p d left ≡ Some (left - 1)
leaf zero left p h some room = absurd cc
leaf (suc d) zero p h some room = absurd (omega arith)
leaf (suc d) (suc left) p h some room = h d left ∙ ap (λ (n : ℕ). (let o : Option ℕ = Some n in o)) (omega arith)

abbrev some_left : ℕ → Option ℕ
some_left n = Some n

mutual
  unfolding place_each

  pub plan_placed : (p : Plan) (d left : ℕ) → within p d ≡ true → nodes p ≤ left → placing p d left ≡ Some (left - nodes p)
  plan_placed boolean_plan d left h room = leaf d left (placing boolean_plan) (λ depth more. refl) h room
  plan_placed int_plan d left h room = leaf d left (placing int_plan) (λ depth more. refl) h room
  plan_placed long_plan d left h room = leaf d left (placing long_plan) (λ depth more. refl) h room
  plan_placed bytes_plan d left h room = leaf d left (placing bytes_plan) (λ depth more. refl) h room
  plan_placed text_plan d left h room = leaf d left (placing text_plan) (λ depth more. refl) h room
  plan_placed date_plan d left h room = leaf d left (placing date_plan) (λ depth more. refl) h room
  plan_placed (instant_plan utc) d left h room = leaf d left (placing (instant_plan utc)) (λ depth more. refl) h room
  plan_placed (decimal_plan name precision scale) d left h room = leaf d left (placing (decimal_plan name precision scale)) (λ depth more. refl) h room
  plan_placed (pairs_plan p) zero left h room = absurd cc
  plan_placed (pairs_plan p) (suc d) zero h room = absurd (omega arith)
  plan_placed (pairs_plan p) (suc d) (suc left) h room = plan_placed p d left h (omega arith) ∙ ap some_left (omega arith)
  plan_placed (optional_plan p) zero left h room = absurd cc
  plan_placed (optional_plan p) (suc zero) left h room = absurd cc
  plan_placed (optional_plan p) (suc (suc d)) zero h room = absurd (omega arith)
  plan_placed (optional_plan p) (suc (suc d)) (suc zero) h room = absurd (omega arith)
  plan_placed (optional_plan p) (suc (suc d)) (suc (suc left)) h room =
      ap (λ (o : Option ℕ). option_and_then (place_each [] (suc d)) o) (plan_placed p (suc d) left h (omega arith)) ∙ ap some_left (omega arith)
  plan_placed (items_plan element p) zero left h room = absurd cc
  plan_placed (items_plan element p) (suc d) zero h room = absurd (omega arith)
  plan_placed (items_plan element p) (suc d) (suc left) h room = plan_placed p d left h (omega arith) ∙ ap some_left (omega arith)
  plan_placed (record_plan name ps) zero left h room = absurd cc
  plan_placed (record_plan name ps) (suc d) zero h room = absurd (omega arith)
  plan_placed (record_plan name ps) (suc d) (suc left) h room = plans_placed ps d left h (omega arith) ∙ ap some_left (omega arith)

  pub plans_placed : (ps : Plans) (d left : ℕ) → all_within ps d ≡ true → nodes_of ps ≤ left → place_each (placings ps) d left ≡ Some (left - nodes_of ps)
  plans_placed no_plans d left h room = ap some_left (omega arith)
  plans_placed (more_plans id name p ps) d left h room =
      ap (λ (o : Option ℕ). option_and_then (place_each (placings ps) d) o) (plan_placed p d left (first (within p d) (all_within ps d) h) (omega arith))
      ∙ plans_placed ps d (left - nodes p) (second (within p d) (all_within ps d) h) (omega arith) ∙ ap some_left (omega arith)
