-- The fields of a record.
use Rattle.std.specs.Cmp.Lexicographic.{pointwise}
use Rattle.std.specs.Prelude.{ℕ, Bool, false, List, [], Option, Some, None, nat_eq, unwrap_or}
use Rattle.csv.specs.Records.{field_at}

-- whether there is a field, and it is this text
abbrev pub has_text : Option (List ℕ) → List ℕ → Bool
has_text None name = false
has_text (Some field) name = pointwise nat_eq field name

-- a field, or nothing
abbrev pub field_or : List (List ℕ) → ℕ → List ℕ
field_or fields i = unwrap_or (field_at fields i) []
