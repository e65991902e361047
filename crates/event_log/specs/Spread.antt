-- Runs of equal items, and the list that they stand for.
use Rattle.std.specs.Prelude.{ℕ, ◌<◌, List, [], ◌∷◌, ◌++◌, Option, Some, None, replicate}
use Rattle.std.specs.List.{AllByRecursion}
use Rattle.event_log.specs.declared.runs.Run.{Run}

-- a list as contracts see it: its items one by one, for how many more there is room at least, for how many there is
-- memory where it is empty, in how many runs it keeps them, and how many items there were when it was marked
pub record Spread (T : Type 0) : Type 0 where
  pub items : List T
  pub room : ℕ
  pub memory : ℕ
  pub kept : ℕ
  pub marked : ℕ

-- the items of runs, in order
abbrev pub spread : {T : Type 0} → List (Run T) → List T
spread [] = []
spread (r ∷ rs) = replicate r.count r.item ++ spread rs

-- no run is empty
abbrev pub AreSome : {T : Type 0} → List (Run T) → Type 0
AreSome runs = AllByRecursion (λ r. 0 < r.count) runs

-- the last item, if there is one
abbrev pub last_of : {T : Type 0} → List T → Option T
last_of [] = None
last_of (x ∷ []) = Some x
last_of (x ∷ (y ∷ ys)) = last_of (y ∷ ys)
