-- Which block a mount erases first.
use Rattle.std.specs.Prelude.{◌≡◌, ℕ, ◌<◌, List, Option, Some, None, IsSome}
use Rattle.slot_types.specs.Places.{place_of}
use Rattle.slot_types.specs.declared.pages.Place.{Place}
use Rattle.slot_types.specs.declared.plans.DiePlan.{DiePlan}
use Rattle.power_loss.specs.Labels.{Shown}
use Rattle.power_loss.specs.Mounted.{all_count}
use Rattle.power_loss.specs.Recovery.{FindsNoneIn}
use Rattle.die_mount.specs.declared.erasing.FirstErase.{FirstErase}
use Rattle.die_mount.specs.declared.erasing.FirstErase.TheVariants as first

abbrev pub block_of : FirstErase → ℕ
block_of (first.Idle block) = block
block_of (first.Undo block) = block

-- of the blocks in which no page is found the one with the least number; or there is none
abbrev pub IsFirstIdle : DiePlan → Shown → FirstErase → Type 0
IsFirstIdle plan seen (first.Idle block) = FindsNoneIn plan all_count seen block
    × ((other : ℕ) → FindsNoneIn plan all_count seen other → other < block → ⊥)
IsFirstIdle plan seen (first.Undo block) = (other : ℕ) → other < plan.shape.blocks → FindsNoneIn plan all_count seen other → ⊥

-- each page that lies somewhere in the first lies somewhere in the second
abbrev pub HasAllOf : List (Option Place) → List (Option Place) → Type 0
HasAllOf before after = (page : ℕ) (q : Place) → place_of before page ≡ Some q → IsSome (place_of after page)

-- this page doesn't, and each one before it does
pub record IsFirstLost (before after : List (Option Place)) (page : ℕ) : Type 0 where
  pub lay : IsSome (place_of before page)
  pub lost : place_of after page ≡ None
  pub first : (earlier : ℕ) (q : Place) → earlier < page → place_of before earlier ≡ Some q → IsSome (place_of after earlier)
