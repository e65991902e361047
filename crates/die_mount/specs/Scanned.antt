-- What a scan has of what was reported to it.
use Rattle.std.specs.Prelude.{◌≡◌, ◌⊎◌, ℕ, ◌<◌, ◌≤◌, List, Option, Some, None, length, option_map, slice_index, nat_lt, if◌then◌else◌}
use Rattle.slot_types.specs.Places.{place_of}
use Rattle.slot_types.specs.declared.pages.Place.{Place}
use Rattle.slot_types.specs.declared.plans.DiePlan.{DiePlan}
use Rattle.slot_types.specs.declared.plans.Shape.{Shape}
use Rattle.power_loss.specs.Labels.{Label as Stands, Shown, label_at}
use Rattle.power_loss.specs.Mounted.{Found, all_count, found_in}
use Rattle.die_mount.specs.declared.newest.Newest.{Newest}

-- the part's shape; by page the cell of its newest label, and its serial; how many blocks were reported; where the
-- greatest serial stands; and by block how often it was erased, as was reported, if it was
pub record Scanned : Type 0 where
  pub shape : Shape
  pub places : List (Option Place)
  pub serials : List ℕ
  pub told : ℕ
  pub newest : Option Newest
  pub erases : List (Option ℕ)

-- the cell and the serial of a page's newest label
abbrev pub found_of : List (Option Place) → List ℕ → ℕ → Option Found
found_of places serials page = option_map (λ place. record { place = place; serial = slice_index serials page }) (place_of places page)

-- in these cells no page lies: those of block b from k on, and those of later blocks
abbrev pub LieBefore : ℕ → ℕ → List (Option Place) → Type 0
LieBefore b k places = (page : ℕ) (q : Place) → place_of places page ≡ Some q → (q.block < b) ⊎ ((q.block ≡ b) × (q.page < k))

-- where the greatest serial stands once a block with this greatest serial was reported: where it stood, unless that is
-- smaller
abbrev pub newer_of : Option Newest → ℕ → Option ℕ → Option Newest
newer_of before block None = before
newer_of None block (Some serial) = Some (record { block = block; serial = serial })
newer_of (Some n) block (Some serial) = if nat_lt n.serial serial then Some (record { block = block; serial = serial }) else Some n

-- a label in this block has this serial, and no label has a greater one; or there is no label
abbrev pub IsGreatest : Shown → Option Newest → Type 0
IsGreatest seen None = (q : Place) (x : Stands) → label_at seen q ≡ Some x → ⊥
IsGreatest seen (Some n) = ((q : Place) × (x : Stands) × (label_at seen q ≡ Some x) × (q.block ≡ n.block) × (x.serial ≡ n.serial))
    × ((q : Place) (x : Stands) → label_at seen q ≡ Some x → x.serial ≤ n.serial)

-- `told` blocks of a part of this plan show this: by page the scan has the newest label, whatever is known of trims
pub record IsScanOf (plan : DiePlan) (s : Scanned) (seen : Shown) : Type 0 where
  pub shape : s.shape ≡ plan.shape
  pub logical : length s.places ≡ plan.logical
  pub told : length seen ≡ s.told
  pub found : (page : ℕ) → page < plan.logical → found_of s.places s.serials page ≡ found_in (all_count page) page 0 seen None
  pub newest : IsGreatest seen s.newest
