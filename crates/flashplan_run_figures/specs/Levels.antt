-- How low something fell.
use Rattle.std.specs.Prelude.{◌≡◌, ℕ, ◌<◌, ◌≤◌, min}
use Rattle.flashplan_run_figures.specs.declared.levels.Low.{Low}

-- the least so far, with a value of this slot: the first slot in which it was so low
pub record IsLowWith (value slot : ℕ) (old new : Low) : Type 0 where
  pub least : new.value ≡ min old.value value
  pub lower : value < old.value → new.slot ≡ slot
  pub stays : old.value ≤ value → new.slot ≡ old.slot
