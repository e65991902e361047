-- Fields that need no quotes, each after a comma.
use Rattle.std.specs.Prelude.{ℕ, List, [], ◌∷◌, ◌++◌}

unfoldable pub after_commas : List (List ℕ) → List ℕ
after_commas [] = []
after_commas (field ∷ fields) = 44 ∷ (field ++ after_commas fields)
