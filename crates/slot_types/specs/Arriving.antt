-- What arrives by a slot, of a list in the order in which its elements arrive.
use Rattle.std.specs.Prelude.{ℕ, nat_le, Bool, List, drop}
use Rattle.std.specs.List.{prefix_len, take_while}

-- does an element arrive by a slot, where `at` tells its own?
abbrev pub arrives_by : {A : Type 0} → (A → ℕ) → ℕ → A → Bool
arrives_by at slot x = nat_le (at x) slot

-- the elements in front that arrive by a slot
abbrev pub arrivals_by : {A : Type 0} → (A → ℕ) → ℕ → List A → List A
arrivals_by at slot xs = take_while (arrives_by at slot) xs

-- the elements after these
abbrev pub arrivals_after : {A : Type 0} → (A → ℕ) → ℕ → List A → List A
arrivals_after at slot xs = drop (prefix_len (arrives_by at slot) xs) xs
