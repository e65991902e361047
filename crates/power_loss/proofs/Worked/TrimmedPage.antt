-- A trimmed page whose block is in erase: a mount that knows nothing of the trim may find the page there, with its last
-- write, or not, and then it stays blank. On a part the next life begins so.
use Rattle.std.proofs.Common.{◌≡◌, ℕ, List, [], ◌∷◌, ◌++◌, Option, Some, None, map, option_map, refl}
use Rattle.std.specs.Prelude.{slice_set}
use Rattle.slot_types.specs.Places.{place_of}
use Rattle.die_log.specs.Model.Log.{Log}
use Rattle.die_log.specs.Model.Flash.{cells, block_at, contents}
use Rattle.die_log.specs.Model.Start.{blank_page}
use Rattle.die_log.specs.Model.Answers.{answer}
use Rattle.power_loss.specs.Aside.{found_pages}
use Rattle.power_loss.specs.Labels.{Label, Shown, labels, labels_in, counts_from}
use Rattle.power_loss.specs.Mounted.{all_count, mounted_place}
use Rattle.power_loss.specs.Seen.{MaySeeAfter}
use Rattle.power_loss.proofs.Worked.Erased.{sees_none_in}
use Rattle.power_loss.proofs.Worked.Plans.{plan, start, first, bytes, put, trimmed_with}

abbrev log : Log
log = trimmed_with (put 4)

erasing : (block_at (cells start log) 1).erasing ≡ 1
unfolding answer
erasing = refl

nowhere : place_of (cells start log).places 2 ≡ None
unfolding answer
nowhere = refl

blank : contents start log ≡ bytes 0 ∷ bytes 1 ∷ blank_page ∷ bytes 3 ∷ bytes 4 ∷ []
unfolding answer
blank = refl

abbrev pages_of : List (Option Label) → List (Option ℕ)
pages_of xs = map (option_map (λ x. x.page)) xs

abbrev p : ℕ → Option ℕ
p n = Some n

pages : map pages_of (labels start first log).blocks
    ≡ (p 0 ∷ p 1 ∷ p 4 ∷ p 4 ∷ []) ∷ (p 2 ∷ p 4 ∷ p 4 ∷ p 4 ∷ []) ∷ (p 3 ∷ p 4 ∷ p 4 ∷ p 4 ∷ []) ∷ (p 4 ∷ p 4 ∷ []) ∷ []
unfolding answer
pages = refl

serials : map (option_map (λ x. x.serial)) (labels_in (labels start first log).blocks 3) ≡ Some 12 ∷ Some 13 ∷ []
unfolding answer
serials = refl

-- a label of page 2 counts from 14 on
counts : counts_from start first log 2 ≡ 14
unfolding answer
counts = refl

-- the mount may see all that was there
sees_all : MaySeeAfter (cells start log) (labels start first log) (labels start first log).blocks
sees_all = record { long = refl; whole = λ place idle. refl; remains = λ place x stands. stands }

-- and then finds the page in the block that is in erase
found : mounted_place 0 2 (labels start first log).blocks ≡ Some (record { block = 1; page = 0 })
unfolding answer
found = refl

-- except for the trim, of which it needs to know
not_found : mounted_place (counts_from start first log 2) 2 (labels start first log).blocks ≡ None
unfolding answer
not_found = refl

-- or it sees nothing in that block
abbrev none_in_erase : Shown
none_in_erase = slice_set (labels start first log).blocks 1 []

sees_none : MaySeeAfter (cells start log) (labels start first log) none_in_erase
unfolding answer
sees_none = sees_none_in (cells start log) (labels start first log) 1 refl

gone : mounted_place 0 2 none_in_erase ≡ None
unfolding answer
gone = refl

-- on a part whose last block stands aside, the next life begins with the last write of page 2
abbrev of_part : Shown → Shown
of_part seen = seen ++ [] ∷ []

comes_back : found_pages plan all_count (of_part (labels start first log).blocks) ≡ bytes 0 ∷ bytes 1 ∷ bytes 2 ∷ bytes 3 ∷ bytes 4 ∷ []
unfolding answer
comes_back = refl

-- or with none
stays_blank : found_pages plan all_count (of_part none_in_erase) ≡ bytes 0 ∷ bytes 1 ∷ blank_page ∷ bytes 3 ∷ bytes 4 ∷ []
unfolding answer
stays_blank = refl
