-- What stands under a key of a JSON object, where it has the form that is asked for. A value that is no object has no
-- keys.
use Rattle.std.specs.Prelude.{ℕ, suc, ℤ, pos, neg_ℤ, ◌-◌, ◌^◌, ◌&&◌, int_le, if◌then◌else◌, List, Bool, true, false, Option, Some, None, is_some, option_and_then}
use Rattle.std.specs.Ordering.{int_eq}
use Rattle.serde_json.specs.Data.{Data, Items, no_items, item, Members}
use Rattle.plain_types.specs.Steps.{by_option}
use Rattle.serde_json.specs.Find.{get, as_number, as_i64, as_u64, as_str, as_bool, as_array, as_object}

-- a whole number of 64 bits
abbrev pub long_of : Data → Option ℤ
long_of d = option_and_then as_i64 (as_number d)

-- the number, where it has at most 32 bits
abbrev pub in_int : ℤ → Option ℤ
in_int n = if int_le (neg_ℤ (pos (2 ^ 31))) n && int_le n (pos (2 ^ 31 - 1)) then Some n else None

-- the number, where it has at most 64 bits
abbrev pub in_long : ℤ → Option ℤ
in_long n = if int_le (neg_ℤ (pos (2 ^ 63))) n && int_le n (pos (2 ^ 63 - 1)) then Some n else None

abbrev pub long_at : List ℕ → Data → Option ℤ
long_at key d = option_and_then long_of (get key d)

abbrev pub int_at : List ℕ → Data → Option ℤ
int_at key d = option_and_then in_int (long_at key d)

abbrev pub text_at : List ℕ → Data → Option (List ℕ)
text_at key d = option_and_then as_str (get key d)

abbrev pub bool_at : List ℕ → Data → Option Bool
bool_at key d = option_and_then as_bool (get key d)

abbrev pub items_at : List ℕ → Data → Option Items
items_at key d = option_and_then as_array (get key d)

abbrev pub members_at : List ℕ → Data → Option Members
members_at key d = option_and_then as_object (get key d)

-- how many elements a list has
abbrev pub item_count : Items → ℕ
item_count no_items = 0
item_count (item d ds) = suc (item_count ds)

-- a whole number: of 0 to 2^64 - 1, or else of 64 bits with a sign
abbrev pub whole_of : Data → Option ℤ
whole_of d = by_option (option_and_then as_u64 (as_number d)) (λ n. Some (pos n)) (long_of d)

-- whether the value under the key of this element is the number
abbrev pub is_id : List ℕ → ℤ → Data → Bool
is_id key id d = by_option (long_at key d) (λ n. int_eq n id) false

-- whether an element has the number under the key
unfoldable pub has_id : List ℕ → ℤ → Items → Bool
has_id key id no_items = false
has_id key id (item d ds) = if is_id key id d then true else has_id key id ds

-- whether two elements have one number under the key
unfoldable pub has_twice : List ℕ → Items → Bool
has_twice key no_items = false
has_twice key (item d ds) = if by_option (long_at key d) (λ n. has_id key n ds) false then true else has_twice key ds

-- whether each element is an object
unfoldable pub all_objects : Items → Bool
all_objects no_items = true
all_objects (item d ds) = if is_some (as_object d) then all_objects ds else false
