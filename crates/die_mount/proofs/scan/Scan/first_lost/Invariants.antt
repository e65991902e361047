use Rattle.std.proofs.Common.{◌≡◌, ◌<◌, ℕ, Some}
use Rattle.std.specs.Prelude.{IsSome}
use Rattle.slot_types.specs.declared.pages.Place.{Place}
use Rattle.slot_types.specs.Places.{place_of}
use Rattle.die_mount.proofs.scan.Scan.first_lost.Given as goal

abbrev pub invariant-loop-page : goal.invariant-loop-page
invariant-loop-page l = (page : ℕ) (q : Place) → page < l.page → place_of l.before.places page ≡ Some q → IsSome (place_of l.self.places page)
