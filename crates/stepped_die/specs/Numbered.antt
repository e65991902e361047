-- What is said of a die on a part by the labels there.
use Rattle.std.specs.Prelude.{◌≡◌, ℕ, List, Option, Some, slice_index_or}
use Rattle.slot_types.specs.Places.{place_of}
use Rattle.slot_types.specs.declared.pages.PageData.{PageData}
use Rattle.slot_types.specs.declared.pages.Place.{Place}
use Rattle.slot_types.specs.declared.plans.DiePlan.{DiePlan}
use Rattle.die_log.specs.Model.Start.{blank_page}
use Rattle.power_loss.specs.Labels.{Labels, fresh_labels, labels}
use Rattle.stepped_die.specs.Stepped.{Stepped}

-- the names that a driver gives are those of the pages that lie somewhere
abbrev pub NamesPages : List (Option Place) → (names pages : List PageData) → Type 0
NamesPages places names pages =
    (page : ℕ) (q : Place) → place_of places page ≡ Some q → slice_index_or names page blank_page ≡ slice_index_or pages page blank_page

-- the die's serial is the number of the next program, where its log began with these labels
abbrev pub NumbersPrograms : Labels → Stepped → Type 0
NumbersPrograms first die = die.part.serial ≡ (labels die.core.start first die.core.log).next

-- a fresh die has no labels, and its first program has the number 1
abbrev pub first_labels : DiePlan → Labels
first_labels plan = record (fresh_labels plan) { next = 1 }
