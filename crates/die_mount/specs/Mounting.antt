-- A mount after the scan: how far it is, and what its calls do.
use Rattle.std.specs.Prelude.{◌≡◌, ◌⊎◌, ℕ, ◌+◌, ◌-◌, ◌*◌, ◌<◌, ◌≤◌, ◌==◌, Bool, false, List, [], ◌∷◌, Option, Some, None, sum_by, count_by}
use Rattle.slot_types.specs.Places.{place_of}
use Rattle.slot_types.specs.declared.pages.Place.{Place}
use Rattle.slot_types.specs.declared.pages.PageData.{PageData}
use Rattle.slot_types.specs.declared.plans.DiePlan.{DiePlan}
use Rattle.slot_types.specs.declared.acts.Act.{Act}
use Rattle.slot_types.specs.declared.acts.Act.TheVariants as does
use Rattle.die_log.specs.Model.Log.{Carried}
use Rattle.die_log.specs.Model.Flash.{Cells, block_at, cells_after, free_in, open_block, valid}
use Rattle.die_log.specs.Model.Work.{is_copy_program, is_erase}
use Rattle.die_log.specs.Invariants.SoundCells.{IsClosed}
use Rattle.power_loss.specs.Aside.{most_rounds_beside, part_of}
use Rattle.power_loss.specs.Labels.{Shown}
use Rattle.power_loss.specs.Mounted.{all_count}
use Rattle.power_loss.specs.Recovery.{AreIdle, AreMountActs, AreSafe, CanGoBack, IsAbove, MayErase, MayMount}
use Rattle.power_loss.specs.Recovery.{IsFreeBlock, cells_of, enough_of, labels_of, remounted_cells, remounted_labels}
use Rattle.die_mount.specs.declared.stage.Stage.{Stage}
use Rattle.die_mount.specs.declared.stage.Stage.TheVariants as stage
use Rattle.die_mount.specs.declared.stage.MountCall.{MountCall}
use Rattle.die_mount.specs.declared.stage.MountCall.TheVariants as calls
use Rattle.die_mount.specs.PartState.{IsFewest}

-- the die's plan; the part's cells; by block how often it was erased before the mount's rounds, which the cells count;
-- the serial of the next program, how many more blocks may have to be emptied, and how far it is. Until its first block
-- is erased the cells and the counts are those that it will have then
pub record Mounting : Type 0 where
  pub plan : DiePlan
  pub cells : Cells
  pub counts : List ℕ
  pub next : ℕ
  pub rounds : ℕ
  pub stage : Stage

-- how many pages are free
abbrev pub free_of : Mounting → ℕ
free_of m = sum_by (free_in m.plan) m.cells.blocks

-- as many free pages as full accounts and a block aside take
abbrev pub goal_of : DiePlan → ℕ
goal_of plan = enough_of plan + plan.shape.pages

-- The next call

abbrev pub call_at : ℕ → Stage → Option MountCall
call_at next (stage.First block slots) = Some (calls.EraseSlot block)
call_at next (stage.Read page from) = Some (calls.Read from)
call_at next (stage.Program page from to) = Some (calls.Program to (record { page = page; serial = next }))
call_at next (stage.Erase block slots) = Some (calls.EraseSlot block)
call_at next stage.Done = None

-- the act of a mount that this call is. The erase of its first block, and a read, is none
abbrev pub act_at : Stage → Option Act
act_at (stage.First block slots) = None
act_at (stage.Read page from) = None
act_at (stage.Program page from to) = Some (does.CopyProgram page)
act_at (stage.Erase block slots) = Some (does.Erase block)
act_at stage.Done = None

abbrev pub carried_at : Stage → Carried
carried_at (stage.First block slots) = None
carried_at (stage.Read page from) = None
carried_at (stage.Program page from to) = Some (0, does.CopyProgram page)
carried_at (stage.Erase block slots) = Some (0, does.Erase block)
carried_at stage.Done = None

abbrev pub programs_at : Stage → ℕ
programs_at (stage.First block slots) = 0
programs_at (stage.Read page from) = 0
programs_at (stage.Program page from to) = 1
programs_at (stage.Erase block slots) = 0
programs_at stage.Done = 0

-- whether the call is the last slot of an erase
abbrev pub ends_erase_at : DiePlan → Stage → Bool
ends_erase_at plan (stage.First block slots) = slots + 1 == plan.shape.erase_slots
ends_erase_at plan (stage.Read page from) = false
ends_erase_at plan (stage.Program page from to) = false
ends_erase_at plan (stage.Erase block slots) = slots + 1 == plan.shape.erase_slots
ends_erase_at plan stage.Done = false

-- The most calls

-- a block that is emptied takes a read and a program for each page, and the slots of its erase
abbrev pub round_calls : DiePlan → ℕ
round_calls plan = 2 * (plan.shape.pages - plan.alpha) + plan.shape.erase_slots

abbrev pub calls_left_at : DiePlan → Cells → ℕ → Stage → ℕ
calls_left_at plan c rounds (stage.First block slots) = plan.shape.erase_slots - slots + rounds * round_calls plan
calls_left_at plan c rounds (stage.Read page from) = 2 * valid c from.block + plan.shape.erase_slots + rounds * round_calls plan
calls_left_at plan c rounds (stage.Program page from to) = 2 * valid c from.block - 1 + plan.shape.erase_slots + rounds * round_calls plan
calls_left_at plan c rounds (stage.Erase block slots) = plan.shape.erase_slots - slots + rounds * round_calls plan
calls_left_at plan c rounds stage.Done = 0

-- how many calls may come yet
abbrev pub calls_left : Mounting → ℕ
calls_left m = calls_left_at m.plan m.cells m.rounds m.stage

-- and how many in all
abbrev pub most_calls : DiePlan → ℕ
most_calls plan = plan.shape.erase_slots + most_rounds_beside plan * round_calls plan

-- Where it stands

-- with `rounds` rounds more, each of which gives alpha pages, enough are free
abbrev pub ReachesGoal : DiePlan → (free rounds : ℕ) → Type 0
ReachesGoal plan free rounds = goal_of plan ≤ free + rounds * plan.alpha

-- each round erases a block once
abbrev pub ErasedAtMost : Cells → ℕ → Type 0
ErasedAtMost c most = (b : ℕ) → (block_at c b).erases ≤ most

-- the block that it erases first is wholly free once it is erased
pub record IsAtFirst (m : Mounting) (block slots : ℕ) : Type 0 where
  pub idle : AreIdle m.cells
  pub free : IsFreeBlock m.cells block
  pub more : slots < m.plan.shape.erase_slots
  pub reaches : ReachesGoal m.plan (free_of m) m.rounds
  pub erased : (b : ℕ) → (block_at m.cells b).erases + m.rounds ≤ most_rounds_beside m.plan

-- the page lies in this cell of a closed block, and none does in a cell before it; there is room for all that lie
-- there, and once they are copied and the block is erased, enough pages are free or come with the rounds that are left
pub record IsAtPage (m : Mounting) (page : ℕ) (from : Place) : Type 0 where
  pub idle : AreIdle m.cells
  pub closed : IsClosed (part_of m.plan) m.cells from.block
  pub lies : place_of m.cells.places page ≡ Some from
  pub first : (other : ℕ) (q : Place) → place_of m.cells.places other ≡ Some q → q.block ≡ from.block → from.page ≤ q.page
  pub room : valid m.cells from.block ≤ free_of m
  pub few : valid m.cells from.block ≤ m.plan.shape.pages - m.plan.alpha
  pub reaches : goal_of m.plan + valid m.cells from.block ≤ free_of m + m.plan.shape.pages + m.rounds * m.plan.alpha
  pub erased : (b : ℕ) → (block_at m.cells b).erases + m.rounds < most_rounds_beside m.plan

-- it goes to the next cell of the block that takes programs
pub record IsAtProgram (m : Mounting) (page : ℕ) (from to : Place) : Type 0 where
  pub at : IsAtPage m page from
  pub opens : open_block (part_of m.plan) m.cells ≡ Some to.block
  pub next : to.page ≡ (block_at m.cells to.block).filled

-- no page lies in the block any longer, and it alone is in erase
pub record IsAtErase (m : Mounting) (block slots : ℕ) : Type 0 where
  pub closed : IsClosed (part_of m.plan) m.cells block
  pub none : valid m.cells block ≡ 0
  pub erasing : (block_at m.cells block).erasing ≡ slots
  pub more : slots < m.plan.shape.erase_slots
  pub others : (b : ℕ) → (b ≡ block → ⊥) → (block_at m.cells b).erasing ≡ 0
  pub reaches : goal_of m.plan ≤ free_of m + m.plan.shape.pages + m.rounds * m.plan.alpha
  pub erased : (b : ℕ) → (block_at m.cells b).erases + m.rounds < most_rounds_beside m.plan

pub record IsAtEnd (m : Mounting) : Type 0 where
  pub idle : AreIdle m.cells
  pub enough : goal_of m.plan ≤ free_of m
  pub erased : ErasedAtMost m.cells (most_rounds_beside m.plan)

abbrev pub IsAt : Mounting → Stage → Type 0
IsAt m (stage.First block slots) = IsAtFirst m block slots
IsAt m (stage.Read page from) = IsAtPage m page from
IsAt m (stage.Program page from to) = IsAtProgram m page from to
IsAt m (stage.Erase block slots) = IsAtErase m block slots
IsAt m stage.Done = IsAtEnd m

-- A step

-- the block that is emptied
abbrev pub victim_at : Stage → Option ℕ
victim_at (stage.First block slots) = None
victim_at (stage.Read page from) = Some from.block
victim_at (stage.Program page from to) = Some from.block
victim_at (stage.Erase block slots) = Some block
victim_at stage.Done = None

-- too few pages are free, and of the closed blocks none has fewer than this one
pub record IsTaken (m : Mounting) (b : ℕ) : Type 0 where
  pub short : free_of m < goal_of m.plan
  pub fewest : IsFewest m.plan.shape.pages m.cells b

-- How it came there

-- the cells count the erases of its rounds alone
abbrev pub never_erased : ℕ → ℕ
never_erased b = 0

-- the cells once its first block is erased
abbrev pub first_cells : DiePlan → (erased : ℕ) → Shown → Cells
first_cells plan erased seen = remounted_cells (part_of plan) all_count erased never_erased seen

-- the acts after the call of this stage, the newest first
abbrev pub acts_after : Stage → List Act → List Act
acts_after (stage.First block slots) acts = acts
acts_after (stage.Read page from) acts = acts
acts_after (stage.Program page from to) acts = does.CopyProgram page ∷ acts
acts_after (stage.Erase block slots) acts = does.Erase block ∷ acts
acts_after stage.Done acts = acts

-- how many copies may come yet, and how many slots of erases apart from those of its first block
abbrev pub copies_left_at : DiePlan → Cells → ℕ → Stage → ℕ
copies_left_at plan c rounds (stage.First block slots) = rounds * (plan.shape.pages - plan.alpha)
copies_left_at plan c rounds (stage.Read page from) = valid c from.block + rounds * (plan.shape.pages - plan.alpha)
copies_left_at plan c rounds (stage.Program page from to) = valid c from.block + rounds * (plan.shape.pages - plan.alpha)
copies_left_at plan c rounds (stage.Erase block slots) = rounds * (plan.shape.pages - plan.alpha)
copies_left_at plan c rounds stage.Done = 0

abbrev pub slots_left_at : DiePlan → ℕ → Stage → ℕ
slots_left_at plan rounds (stage.First block slots) = rounds * plan.shape.erase_slots
slots_left_at plan rounds (stage.Read page from) = plan.shape.erase_slots + rounds * plan.shape.erase_slots
slots_left_at plan rounds (stage.Program page from to) = plan.shape.erase_slots + rounds * plan.shape.erase_slots
slots_left_at plan rounds (stage.Erase block slots) = plan.shape.erase_slots - slots + rounds * plan.shape.erase_slots
slots_left_at plan rounds stage.Done = 0

-- with those that may come yet the copies and the slots of erases are not more than all rounds have
pub record FitsRounds (m : Mounting) (acts : List Act) : Type 0 where
  pub copies : count_by is_copy_program acts + copies_left_at m.plan m.cells m.rounds m.stage
      ≤ most_rounds_beside m.plan * (m.plan.shape.pages - m.plan.alpha)
  pub slots : count_by is_erase acts + slots_left_at m.plan m.rounds m.stage ≤ most_rounds_beside m.plan * m.plan.shape.erase_slots

-- before its first block is erased it did no act; and while it copies, a block is wholly free, or it may go back
abbrev pub GoesOnAt : DiePlan → (first c : Cells) → (erased : ℕ) → List Act → Stage → Type 0
GoesOnAt plan first c erased acts (stage.First block slots) = (acts ≡ []) × (block ≡ erased)
GoesOnAt plan first c erased acts (stage.Read page from) = ((b : ℕ) × IsFreeBlock c b) ⊎ CanGoBack (part_of plan) first acts
GoesOnAt plan first c erased acts (stage.Program page from to) = ((b : ℕ) × IsFreeBlock c b) ⊎ CanGoBack (part_of plan) first acts
GoesOnAt plan first c erased acts (stage.Erase block slots) = Unit {0}
GoesOnAt plan first c erased acts stage.Done = Unit {0}

-- Of what was seen it erased this block, or is at it; then it did these acts, at each moment of which the power may go;
-- and it gave its programs the serials from this one on
pub record IsMountOf (seen : Shown) (erased next : ℕ) (acts : List Act) (m : Mounting) : Type 0 where
  pub cells : cells_of (part_of m.plan) acts (first_cells m.plan erased seen) ≡ m.cells
  pub may : AreMountActs (part_of m.plan) (first_cells m.plan erased seen) acts
  pub safe : AreSafe (part_of m.plan) (first_cells m.plan erased seen) acts
  pub goes_on : GoesOnAt m.plan (first_cells m.plan erased seen) m.cells erased acts m.stage
  pub serial : (pages : List PageData)
      → (labels_of (part_of m.plan) pages acts (first_cells m.plan erased seen) (remounted_labels erased seen next)).next ≡ m.next
  pub rounds : FitsRounds m acts

-- it begins with what was seen, with the erase of a block that it may erase, and with a serial above all
pub record BeginsWith (plan : DiePlan) (seen : Shown) (m : Mounting) : Type 0 where
  pub erased : ℕ
  pub may : MayErase (part_of plan) all_count seen erased
  pub next : ℕ
  pub above : IsAbove seen all_count next
  pub plan_is : m.plan ≡ plan
  pub stage_is : m.stage ≡ stage.First erased 0
  pub rounds_is : m.rounds ≡ most_rounds_beside plan
  pub is : IsMountOf seen erased next [] m

-- what a call does that was carried out
pub record IsStep (old new : Mounting) : Type 0 where
  pub plan : new.plan ≡ old.plan
  pub cells : new.cells ≡ cells_after (part_of old.plan) (carried_at old.stage) old.cells
  pub counts : new.counts ≡ old.counts
  pub next : new.next ≡ old.next + programs_at old.stage
  pub may : (act : Act) → act_at old.stage ≡ Some act → MayMount (part_of old.plan) old.cells act
  pub less : calls_left new < calls_left old
  pub takes : (b : ℕ) → victim_at new.stage ≡ Some b → (victim_at old.stage ≡ Some b) ⊎ IsTaken new b
  pub acts : (seen : Shown) (erased next : ℕ) (acts : List Act) → IsMountOf seen erased next acts old
      → IsMountOf seen erased next (acts_after old.stage acts) new
