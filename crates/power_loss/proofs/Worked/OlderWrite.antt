-- A trimmed page comes back with an older write than its last: that one's cell is in a block in erase, and can't be
-- read any longer, while the older write's cell stands in another block.
use Rattle.std.proofs.Common.{◌≡◌, [], ◌∷◌, ◌++◌, Some, None, refl}
use Rattle.std.specs.Prelude.{slice_set}
use Rattle.slot_types.specs.Places.{place_of}
use Rattle.slot_types.specs.declared.events.Op.TheVariants.{Write}
use Rattle.die_log.specs.Model.Log.{Log}
use Rattle.die_log.specs.Model.Flash.{cells, contents}
use Rattle.die_log.specs.Model.Start.{blank_page}
use Rattle.die_log.specs.Model.Answers.{answer}
use Rattle.power_loss.specs.Aside.{found_pages}
use Rattle.power_loss.specs.Labels.{Shown, labels}
use Rattle.power_loss.specs.Mounted.{all_count, mounted_place}
use Rattle.power_loss.specs.Seen.{MaySeeAfter}
use Rattle.power_loss.proofs.Worked.Erased.{sees_none_in}
use Rattle.power_loss.proofs.Worked.Plans.{plan, start, first, bytes, trimmed_with}

-- the third write is of page 2, with other bytes than the last one
abbrev log : Log
log = trimmed_with (Write 2 (bytes 70))

nowhere : place_of (cells start log).places 2 ≡ None
unfolding answer
nowhere = refl

blank : contents start log ≡ bytes 0 ∷ bytes 1 ∷ blank_page ∷ bytes 3 ∷ bytes 4 ∷ []
unfolding answer
blank = refl

-- the last write may be seen in block 1, which is in erase
last : mounted_place 0 2 (labels start first log).blocks ≡ Some (record { block = 1; page = 0 })
unfolding answer
last = refl

-- or nothing in that block
abbrev seen : Shown
seen = slice_set (labels start first log).blocks 1 []

sees : MaySeeAfter (cells start log) (labels start first log) seen
unfolding answer
sees = sees_none_in (cells start log) (labels start first log) 1 refl

older : mounted_place 0 2 seen ≡ Some (record { block = 0; page = 2 })
unfolding answer
older = refl

-- then the next life begins with what was written on it first
comes_back : found_pages plan all_count (seen ++ [] ∷ []) ≡ bytes 0 ∷ bytes 1 ∷ bytes 70 ∷ bytes 3 ∷ bytes 4 ∷ []
unfolding answer
comes_back = refl
