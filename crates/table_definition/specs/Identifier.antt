-- The identifier of a new table: a UUID of version 5 (RFC 9562, section 5.5) whose name, in the namespace of URLs, is the
-- table's location and the time at which it is made.
use Rattle.std.specs.Prelude.{ℕ, ℤ, List, [], ◌∷◌, ◌++◌, take, codes}
use Rattle.std.specs.Fmt.{signed_decimal}
use Rattle.sha1.specs.Sha1.{sha1}
use Rattle.uuid.specs.Parts.{with_variant, with_version}
use Rattle.uuid.specs.Text.{hyphenated_text, lower}
use Rattle.uuid.specs.declared.Variant.TheVariants.{RFC4122}
use Rattle.uuid.specs.declared.Version.TheVariants.{Sha1}

-- the namespace of URLs
abbrev pub url_namespace : List ℕ
url_namespace = 107 ∷ 167 ∷ 184 ∷ 17 ∷ 157 ∷ 173 ∷ 17 ∷ 209 ∷ 128 ∷ 180 ∷ 0 ∷ 192 ∷ 79 ∷ 212 ∷ 48 ∷ 200 ∷ []

abbrev pub identifier_of : List ℕ → List ℕ
identifier_of name = with_version (with_variant (take 16 (sha1 (url_namespace ++ name))) RFC4122) Sha1

abbrev pub name_text : List ℕ → ℤ → List ℕ
name_text location now = location ++ (codes ":" ++ signed_decimal now)

abbrev pub identifier_text : List ℕ → ℤ → List ℕ
identifier_text location now = hyphenated_text lower (identifier_of (name_text location now))
