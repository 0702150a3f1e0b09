-- Names of fields (Avro 1.11.1, "Names").
use Rattle.std.specs.Prelude.{ℕ, suc, ℤ, pos, negsuc, Bool, false, ◌&&◌, ◌||◌, nat_eq, nat_le, List, [], ◌∷◌, ◌++◌, codes}
use Rattle.std.specs.Fmt.{decimal}
use Rattle.std.specs.List.{list_all}

abbrev pub is_letter : ℕ → Bool
is_letter b = (nat_le 65 b && nat_le b 90) || ((nat_le 97 b && nat_le b 122) || nat_eq b 95)

abbrev pub is_name_byte : ℕ → Bool
is_name_byte b = is_letter b || (nat_le 48 b && nat_le b 57)

-- letters, digits and underscores, of which no digit stands first
abbrev pub is_name : List ℕ → Bool
is_name [] = false
is_name (b ∷ bs) = is_letter b && list_all is_name_byte bs

-- `c` and the id, or `cm` and the id without its sign
abbrev pub id_name : ℤ → List ℕ
id_name (pos n) = codes "c" ++ decimal n
id_name (negsuc n) = codes "cm" ++ decimal (suc n)

-- the name of the type of the decimals of the field with the id, which no other field's has: a named type is defined once
abbrev pub decimal_name : ℤ → List ℕ
decimal_name id = codes "decimal_" ++ id_name id
