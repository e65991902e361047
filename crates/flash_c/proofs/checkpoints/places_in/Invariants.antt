use Rattle.std.proofs.Common.{◌≡◌, map, take}
use Rattle.flash_c.specs.Checkpoints.{place_in}
use Rattle.flash_c.proofs.checkpoints.places_in.Given as goal

abbrev pub invariant-loop-place : goal.invariant-loop-place
invariant-loop-place l = l.made ≡ map place_in (take l.place-index l.places)
