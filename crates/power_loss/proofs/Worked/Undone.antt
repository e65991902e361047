-- A mount is cut where its first copy has opened the last free block: each block of the part shows a page then, and the
-- next mount undoes the block with the greatest number.
use Rattle.std.proofs.Common.{◌≡◌, ℕ, List, [], ◌∷◌, ◌++◌, Option, Some, refl, arith}
use Rattle.slot_types.specs.declared.pages.Place.{Place}
use Rattle.slot_types.specs.declared.acts.Act.{Act}
use Rattle.slot_types.specs.declared.acts.Act.TheVariants as does
use Rattle.die_log.specs.Model.Flash.{Cells}
use Rattle.die_log.specs.Model.Answers.{answer}
use Rattle.power_loss.specs.Aside.{found_pages, part_of}
use Rattle.power_loss.specs.Labels.{Shown, labels}
use Rattle.power_loss.specs.Mounted.{all_count, mounted_places}
use Rattle.power_loss.specs.Recovery.{AreMountActs, labels_of, remounted_cells, remounted_labels, without_block}
use Rattle.power_loss.proofs.Worked.Plans.{plan, start, first, full, bytes}

-- the die's four blocks, and the one aside
abbrev before : Shown
before = (labels start first full).blocks ++ [] ∷ []

-- the mount erases that one, and copies page 0 to it
abbrev c : Cells
c = remounted_cells (part_of plan) (λ page. 0) 4 (λ b. 0) before

abbrev copy : List Act
copy = does.CopyProgram 0 ∷ []

may : AreMountActs (part_of plan) c copy
unfolding answer
may = (tt, (omega arith, (0, refl)))

abbrev seen : Shown
seen = (labels_of (part_of plan) (found_pages plan all_count before) copy c (remounted_labels 4 before 14)).blocks

abbrev at : ℕ → ℕ → Option Place
at b k = Some (record { block = b; page = k })

-- a page is found in each block
places : mounted_places (λ page. 0) 5 seen ≡ at 4 0 ∷ at 0 1 ∷ at 1 0 ∷ at 2 0 ∷ at 3 1 ∷ []
unfolding answer
places = refl

-- without the newest block they are found where they came from
back : mounted_places (λ page. 0) 5 (without_block 4 seen) ≡ at 0 0 ∷ at 0 1 ∷ at 1 0 ∷ at 2 0 ∷ at 3 1 ∷ []
unfolding answer
back = refl

pages : found_pages plan all_count seen ≡ bytes 0 ∷ bytes 1 ∷ bytes 2 ∷ bytes 3 ∷ bytes 4 ∷ []
unfolding answer
pages = refl

same : found_pages plan all_count (without_block 4 seen) ≡ bytes 0 ∷ bytes 1 ∷ bytes 2 ∷ bytes 3 ∷ bytes 4 ∷ []
unfolding answer
same = refl
