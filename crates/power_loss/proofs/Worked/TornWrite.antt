-- A write during which the power goes: the mount finds the page as it was, or as it was to be.
use Rattle.std.proofs.Common.{◌≡◌, [], ◌∷◌, Some, refl}
use Rattle.slot_types.specs.declared.events.Op.TheVariants.{Write}
use Rattle.die_log.specs.Model.Log.{Log}
use Rattle.die_log.specs.Model.Answers.{run, answer}
use Rattle.power_loss.specs.Labels.{labels}
use Rattle.power_loss.specs.Mounted.{mounted_place, mounted_content}
use Rattle.power_loss.proofs.Worked.Plans.{start, first, bytes, put, submit, slot}

-- page 3 is written, and written anew
abbrev before : Log
before = run start [] (submit 0 10 (put 3 ∷ Write 3 (bytes 77) ∷ []) ∷ slot ∷ [])

abbrev after : Log
after = run start before (slot ∷ [])

place_before : mounted_place 0 3 (labels start first before).blocks ≡ Some (record { block = 0; page = 0 })
unfolding answer
place_before = refl

place_after : mounted_place 0 3 (labels start first after).blocks ≡ Some (record { block = 0; page = 1 })
unfolding answer
place_after = refl

content_before : mounted_content 0 3 (labels start first before).blocks ≡ bytes 3
unfolding answer
content_before = refl

content_after : mounted_content 0 3 (labels start first after).blocks ≡ bytes 77
unfolding answer
content_after = refl
