-- Lists that go out into the caller's array.
use Rattle.std.specs.Prelude.{List, [], ◌∷◌}

-- an array after these were put into it, as far as there is room
abbrev pub array_with : {A B : Type 0} → (A → B) → List B → List A → List B
array_with f [] items = []
array_with f (place ∷ places) [] = place ∷ places
array_with f (place ∷ places) (item ∷ items) = f item ∷ array_with f places items
