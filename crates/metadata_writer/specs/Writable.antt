-- What of a table's metadata can be written so that it reads back: all that was read.
use Rattle.std.specs.Prelude.{◌≡◌, ◌≤◌, false, IsSome}
use Rattle.serde_json.specs.Data.{Data, depth}
use Rattle.serde_json.specs.Find.{as_object}
use Rattle.serde_json.specs.Read.{max_depth}
use Rattle.serde_json.specs.Written.{has_float}

-- an object of whole numbers of 64 bits, no deeper than a text may nest
pub record IsWritable (d : Data) : Type 0 where
  pub object : IsSome (as_object d)
  pub whole : has_float d ≡ false
  pub nests : depth d ≤ max_depth
