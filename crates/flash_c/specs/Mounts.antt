-- A mount as C has it: how far it is, what it needs next, and what was reported to it.
use Rattle.std.specs.Prelude.{◌≡◌, ℕ, ◌+◌, ◌++◌, ◌<◌, Bool, List, [], ◌∷◌, Option, Some, None, ◌==◌, if◌then◌else◌, false, map, max, slice_index_or, slice_set, take, ⊤}
use Rattle.std.specs.List.{fold, range_with_len}
use Rattle.slot_types.specs.declared.acts.Act.{Act}
use Rattle.slot_types.specs.declared.pages.PageData.{PageData}
use Rattle.slot_types.specs.declared.pages.Place.{Place}
use Rattle.slot_types.specs.declared.plans.DiePlan.{DiePlan}
use Rattle.slot_types.specs.Places.{place_of}
use Rattle.die_log.specs.Model.Flash.{block_at}
use Rattle.power_loss.specs.Aside.{part_of}
use Rattle.power_loss.specs.Labels.{Label as Stands, Shown, FitPlan, labels_in}
use Rattle.power_loss.specs.Mounted.{all_count}
use Rattle.power_loss.specs.Recovery.{IsAbove, MayErase, without_block}
use Rattle.die_mount.specs.declared.label.Label.{Label}
use Rattle.die_mount.specs.declared.stage.MountCall.{MountCall}
use Rattle.die_mount.specs.declared.stage.MountCall.TheVariants as calls
use Rattle.die_mount.specs.declared.mounted.Mounted.{Mounted}
use Rattle.die_mount.specs.declared.stage.Stage.TheVariants as stage
use Rattle.die_mount.specs.Ending.{IsEndOf}
use Rattle.die_mount.specs.Erases.{counts_with}
use Rattle.die_mount.specs.Mounting.{IsMountOf, Mounting, call_at, calls_left, ends_erase_at}
use Rattle.die_mount.specs.Scanned.{IsScanOf}
use Rattle.die_mount.specs.Told.{told_cells}
use Rattle.flash_c.specs.declared.recoveries.Recovery.{Recovery}
use Rattle.flash_c.specs.declared.recoveries.Recovery.TheVariants as recovery
use Rattle.flash_c.specs.declared.shapes.FlashLabel.{FlashLabel}
use Rattle.flash_c.specs.declared.shapes.FlashStep.{FlashStep}
use Rattle.flash_c.specs.Counts.{flag}
use Rattle.stepped_die.specs.Names.{GoesOn}
use Rattle.stepped_die.specs.Stepped.{Stepped}

-- the label that a struct stands for: none where the page is this number
abbrev pub label_in : FlashLabel → Option Label
label_in label = if label.page == 4294967295 then None else Some (record { page = label.page; serial = label.serial })

-- how often its block was erased, as it tells
abbrev pub erases_of : FlashLabel → Option ℕ
erases_of label = if label.page == 4294967295 then None else Some label.erases

abbrev pub greater_of : Option ℕ → Option ℕ → Option ℕ
greater_of None erases = erases
greater_of (Some most) None = Some most
greater_of (Some most) (Some erases) = Some (max most erases)

-- the greatest count of a block's good cells
abbrev pub erases_told : List FlashLabel → Option ℕ
erases_told labels = fold (λ most label. greater_of most (erases_of label)) None labels

-- a block is reported next
abbrev pub telling : ℕ → FlashStep
telling block = record { serial = 0; kind = 4; block = block; page = 0; logical = 0; last = 0; erases = 0 }

-- how often the block was erased that the call programs
abbrev pub erases_in : Mounting → Option MountCall → ℕ
erases_in m (Some (calls.Program place label)) = slice_index_or m.counts place.block 0 + (block_at m.cells place.block).erases
erases_in m _ = 0

-- a call of the part is made next, or none any more
abbrev pub calling : Option MountCall → Bool → ℕ → FlashStep
calling None last erases = record { serial = 0; kind = 0; block = 0; page = 0; logical = 0; last = 0; erases = 0 }
calling (Some (calls.Read place)) last erases = record { serial = 0; kind = 1; block = place.block; page = place.page; logical = 0; last = 0; erases = 0 }
calling (Some (calls.Program place label)) last erases = record {
  serial = label.serial;
  kind = 2;
  block = place.block;
  page = place.page;
  logical = label.page;
  last = 0;
  erases = erases;
}
calling (Some (calls.EraseSlot block)) last erases = record {
  serial = 0;
  kind = 3;
  block = block;
  page = 0;
  logical = 0;
  last = flag last;
  erases = 0;
}

abbrev pub step_at : Recovery → Option FlashStep
step_at (recovery.Scan plan scan) = Some (telling scan.told)
step_at (recovery.Again plan before again block) = Some (telling again.told)
step_at (recovery.Calls m) = Some (calling (call_at m.next m.stage) (ends_erase_at m.plan m.stage) (erases_in m (call_at m.next m.stage)))
step_at recovery.Over = None

-- What was reported to it

abbrev pub IsFirstScan : Recovery → Type 0
IsFirstScan (recovery.Scan plan scan) = ⊤
IsFirstScan _ = ⊥

-- this block is reported again next
abbrev pub TellsAgain : Recovery → ℕ → Type 0
TellsAgain (recovery.Again plan before again block) next = again.told ≡ next
TellsAgain _ next = ⊥

-- it goes by what was seen: it erases a block that it may, took a serial above all, and came here by acts of a mount
pub record GoesBySeen (plan : DiePlan) (seen : Shown) (m : Mounting) : Type 0 where
  pub erased : ℕ
  pub next : ℕ
  pub acts : List Act
  pub plan_is : m.plan ≡ plan
  pub may : MayErase (part_of plan) all_count seen erased
  pub above : IsAbove seen all_count next
  pub is : IsMountOf seen erased next acts m

-- what a mount has seen of the part of this plan: the blocks that were reported so far, or all of them
abbrev pub HasSeen : DiePlan → Shown → Recovery → Type 0
HasSeen plan seen (recovery.Scan own scan) = (own ≡ plan) × IsScanOf (part_of plan) scan seen
HasSeen plan seen (recovery.Again own before again block) = (own ≡ plan) × IsScanOf (part_of plan) before seen
    × (before.told ≡ before.shape.blocks) × IsScanOf (part_of plan) again (take again.told (without_block block seen)) × MayErase (part_of plan) all_count seen block
HasSeen plan seen (recovery.Calls m) = GoesBySeen plan seen m
HasSeen plan seen recovery.Over = ⊤

-- The erases that were reported to it

-- the mount goes on from these, and has erased its first block once more
pub record CountsOn (told : List (Option ℕ)) (m : Mounting) : Type 0 where
  pub erased : ℕ
  pub counts : m.counts ≡ map (counts_with told erased) (range_with_len 0 (m.plan.shape.blocks + 1))

-- by block how often it was erased, as was reported, if it was
abbrev pub HasCounts : List (Option ℕ) → Recovery → Type 0
HasCounts told (recovery.Scan plan scan) = scan.erases ≡ told
HasCounts told (recovery.Again plan before again block) = before.erases ≡ told
HasCounts told (recovery.Calls m) = CountsOn told m
HasCounts told recovery.Over = ⊤

-- once this was reported of the next block; where blocks are reported again, it isn't looked at
abbrev pub told_after : Recovery → Option ℕ → List (Option ℕ) → List (Option ℕ)
told_after (recovery.Scan plan scan) erases told = slice_set told scan.told erases
told_after _ erases told = told

-- What it has seen, once more is reported

-- the labels of a block were reported: after them it has seen that block, too, or it has seen it again
pub record HasTold (told : List (Option Label)) (old new : Recovery) : Type 0 where
  pub first : (plan : DiePlan) (seen : Shown) (shown : List (Option Stands)) → HasSeen plan seen old → IsFirstScan old
      → told ≡ told_cells shown → FitPlan (part_of plan) (seen ++ shown ∷ []) → HasSeen plan (seen ++ shown ∷ []) new
  pub again : (plan : DiePlan) (seen : Shown) (block : ℕ) → HasSeen plan seen old → TellsAgain old block
      → told ≡ told_cells (labels_in seen block) → FitPlan (part_of plan) seen → HasSeen plan seen new

-- What a mount is asked

abbrev pub calls_left_of : Recovery → ℕ
calls_left_of (recovery.Calls m) = calls_left m
calls_left_of _ = 0

-- its next call was made: it goes by what it saw, and fewer calls come
pub record HasCalled (old new : Recovery) : Type 0 where
  pub seen : (plan : DiePlan) (seen : Shown) → HasSeen plan seen old → HasSeen plan seen new
  pub less : calls_left_of new < calls_left_of old

-- the cell of a page, once all blocks were reported
abbrev pub place_at : Recovery → ℕ → Option (Option Place)
place_at (recovery.Again plan before again block) page = Some (place_of before.places page)
place_at (recovery.Calls m) page = Some (place_of m.cells.places page)
place_at _ page = None

-- The die

-- a mount that has ended so, and a die that begins there with pages of these names
pub record BeginsAt (m : Mounting) (names : List PageData) (die : Stepped) : Type 0 where
  pub ended : m.stage ≡ stage.Done
  pub end : Mounted
  pub is : IsEndOf m end
  pub goes_on : GoesOn m.plan end.checkpoint names die
  pub part : die.part ≡ record { aside = end.aside; serial = end.next; stands = false }

abbrev pub BeginsDie : Recovery → List PageData → Stepped → Type 0
BeginsDie (recovery.Calls m) names die = BeginsAt m names die
BeginsDie _ names die = ⊥
