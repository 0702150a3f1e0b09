-- Placing schemas one after the other, as loops do.
use Rattle.std.proofs.Common.{◌≡◌, ℕ, ◌+◌, ◌<◌, ◌≤◌, List, length, drop, get_or, map, Option, Some, None, refl, sym, ap, ◌∙◌, add-one, drop-cons}
use Rattle.std.specs.Prelude.{option_and_then}
use Rattle.std.proofs.lemmas.List.{drop_all}
use Rattle.avro_binary.specs.declared.schema.Schema.TheFolds.{fold_out-Field}
use Rattle.avro_binary.specs.declared.schema.Field.{Field}
use Rattle.avro_binary.specs.Placed.{Placing, place_each, place_level, place_field, placed, placed_field}

pub placed_field_is : (f : Field) → placed_field f ≡ placed f.schema
placed_field_is f = fold_out-Field Placing Placing place_level place_field f

next : {X : Type 0} (f : X → Placing) (xs : List X) (i : ℕ) (d : X) (depth left : ℕ) → i < length xs → d ≡ get_or xs i d
    → place_each (map f (drop i xs)) depth left ≡ option_and_then (place_each (map f (drop (i + 1) xs)) depth) (f d depth left)
unfolding place_each
next {X = X} f xs i d depth left lt at =
    let one : place_each (map f (drop i xs)) depth left ≡ option_and_then (place_each (map f (drop (i + 1) xs)) depth) (f (get_or xs i d) depth left) = rw (add-one, drop-cons xs i d) refl in
    one ∙ ap (λ (x : X). option_and_then (place_each (map f (drop (i + 1) xs)) depth) (f x depth left)) (sym at)

pub places_on : {X : Type 0} (f : X → Placing) (xs : List X) (i : ℕ) (d : X) (depth left less : ℕ) (total : Option ℕ)
    → i < length xs → d ≡ get_or xs i d → Some less ≡ f d depth left → place_each (map f (drop i xs)) depth left ≡ total
    → place_each (map f (drop (i + 1) xs)) depth less ≡ total
places_on f xs i d depth left less total lt at is so_far = ap (λ o. option_and_then (place_each (map f (drop (i + 1) xs)) depth) o) is ∙ sym (next f xs i d depth left lt at) ∙ so_far

pub places_no_more : {X : Type 0} (f : X → Placing) (xs : List X) (i : ℕ) (d : X) (depth left : ℕ) (total : Option ℕ)
    → i < length xs → d ≡ get_or xs i d → None ≡ f d depth left → place_each (map f (drop i xs)) depth left ≡ total → None ≡ total
places_no_more f xs i d depth left total lt at is so_far = ap (λ o. option_and_then (place_each (map f (drop (i + 1) xs)) depth) o) is ∙ sym (next f xs i d depth left lt at) ∙ so_far

pub places_all : {X : Type 0} (f : X → Placing) (xs : List X) (i : ℕ) (depth left : ℕ) (total : Option ℕ) → length xs ≤ i
    → place_each (map f (drop i xs)) depth left ≡ total → Some left ≡ total
unfolding place_each
places_all f xs i depth left total le so_far =
    let one : place_each (map f (drop i xs)) depth left ≡ Some left = rw (drop_all i xs le) refl in
    sym one ∙ so_far
