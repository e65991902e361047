-- A part with one block more than a die's plan. That block stands aside: the die never sees it, and it is wholly free
-- while the die works. Each mount chooses it anew.
use Rattle.std.specs.Prelude.{◌≡◌, ℕ, ◌+◌, ◌-◌, ◌*◌, ◌/◌, ◌≤◌, ◌<◌, ◌==◌, if◌then◌else◌, List}
use Rattle.std.specs.Prelude.{[], ◌∷◌, ◌++◌, Option, None, Some, length, map, option_map, sum_by}
use Rattle.std.specs.Prelude.{slice_index_or, slice_set, take}
use Rattle.slot_types.specs.declared.plans.DiePlan.{DiePlan}
use Rattle.slot_types.specs.declared.pages.PageData.{PageData}
use Rattle.slot_types.specs.declared.pages.Place.{Place}
use Rattle.slot_types.specs.declared.acts.Act.{Act}
use Rattle.slot_types.specs.declared.acts.Act.TheVariants as does
use Rattle.die_log.specs.Model.Log.{Log, Carried}
use Rattle.die_log.specs.Model.Flash.{Cells, block_at, free_block, free_in, ran_by}
use Rattle.die_log.specs.Model.Answers.{IsExact}
use Rattle.die_log.specs.Model.Opening.{IsOpening}
use Rattle.die_log.specs.Model.Start.{Start}
use Rattle.power_loss.specs.Labels.{Labels, Shown, label_at, CountFrom, IsLabelled}
use Rattle.power_loss.specs.Mounted.{all_count, mounted_contents}
use Rattle.power_loss.specs.Recovery.{IsMountable, MaySeeAgain, MayErase, IsAbove, IsFreeBlock, AreIdle, AreMountActs}
use Rattle.power_loss.specs.Recovery.{AreSafe, FitRounds, remounted_cells}
use Rattle.power_loss.specs.Recovery.{remounted_labels, enough_of, cells_of, labels_of, mounted_start, full_accounts}

-- The die's last number is the number of blocks of its plan, which is the number of the part's last block

-- the number that the die gives a block of the part: the last one has that of the block aside
abbrev pub on_die : (last aside : ℕ) → ℕ → ℕ
on_die last aside b = if b == last then aside else b

-- the number that the part gives a block of the die
abbrev pub on_part : (last aside : ℕ) → ℕ → ℕ
on_part last aside b = if b == aside then last else b

-- the same cell, where blocks have other numbers
abbrev pub renumbered : (ℕ → ℕ) → Place → Place
renumbered number q = record { block = number q.block; page = q.page }

abbrev pub renumbered_places : (ℕ → ℕ) → List (Option Place) → List (Option Place)
renumbered_places number places = map (option_map (renumbered number)) places

-- what the part has by block, without that of the block aside
abbrev pub without_aside : {A : Type 0} → (last aside : ℕ) → A → List A → List A
without_aside last aside none all = take last (slice_set all aside (slice_index_or all last none))

-- what the die has by block, and this for the block aside
abbrev pub with_aside : {A : Type 0} → (aside : ℕ) → A → List A → List A
with_aside aside own some = slice_set (some ++ slice_index_or some aside own ∷ []) aside own

-- The die's cells and labels on the part, and the part's as the die has them

abbrev pub part_cells : (last aside : ℕ) → Cells → Cells
part_cells last aside c = record {
  blocks = with_aside aside free_block c.blocks;
  places = renumbered_places (on_part last aside) c.places;
}

abbrev pub part_labels : (aside : ℕ) → Labels → Labels
part_labels aside l = record l { blocks = with_aside aside [] l.blocks }

abbrev pub die_cells : (last aside : ℕ) → Cells → Cells
die_cells last aside p = record {
  blocks = without_aside last aside free_block p.blocks;
  places = renumbered_places (on_die last aside) p.places;
}

abbrev pub die_labels : (last aside : ℕ) → Labels → Labels
die_labels last aside l = record l { blocks = without_aside last aside [] l.blocks }

-- The part as a plan: one block more, whose pages the first task may own

abbrev pub raised : ℕ → List ℕ → List ℕ
raised pages [] = []
raised pages (own ∷ caps) = (own + pages) ∷ caps

abbrev pub part_of : DiePlan → DiePlan
part_of plan = record plan {
  shape = record plan.shape { blocks = plan.shape.blocks + 1 };
  caps = raised plan.shape.pages plan.caps;
}

-- Without trims

-- a page that is placed nowhere has no label
abbrev pub AreUntrimmed : Cells → Shown → Type 0
AreUntrimmed c blocks = CountFrom c blocks all_count

abbrev pub IsNoTrim : Carried → Type 0
IsNoTrim None = Unit {0}
IsNoTrim (Some (n, does.Trim page)) = ⊥
IsNoTrim (Some (n, _)) = Unit {0}

-- no slot of the log carried a trim
abbrev pub NothingTrimmed : Log → Type 0
NothingTrimmed [] = Unit {0}
NothingTrimmed (e ∷ past) = NothingTrimmed past × IsNoTrim (ran_by e.reply)

-- What is seen

-- of the die's blocks what may be seen of them, and no label in the block aside
pub record MaySeeOnPart (last aside : ℕ) (MaySeeOnDie : Shown → Type 0) (seen : Shown) : Type 0 where
  pub blocks : length seen ≡ last + 1
  pub die : MaySeeOnDie (without_aside last aside [] seen)
  pub none : (place : Place) → place.block ≡ aside → label_at seen place ≡ None

-- what the newest labels on the part bear, by page, of those that count
abbrev pub found_pages : DiePlan → (from : ℕ → ℕ) → Shown → List PageData
found_pages plan from seen = mounted_contents from plan.logical seen

-- a mount can go on from what is seen of the part, with these pages
abbrev pub StandsOnPart : DiePlan → List PageData → (from : ℕ → ℕ) → Shown → Type 0
StandsOnPart plan pages from seen = IsMountable (part_of plan) pages from seen

-- where a mount was cut, the next one may see this
abbrev pub MaySeeAgainOnPart : DiePlan → (from : ℕ → ℕ) → (before seen : Shown) → Type 0
MaySeeAgainOnPart plan from before seen = MaySeeAgain (part_of plan) from before seen

-- Mounts

-- After these acts of a mount a block stands aside, wholly free, and a log may start on the others: with full accounts,
-- with these pages, and with a label that counts of each page that is placed and of no other.
pub record StartsBeside (plan : DiePlan) (from : ℕ → ℕ) (c : Cells) (pages : List PageData) (l : Labels) (acts : List Act)
    (aside : ℕ) (start : Start) (first : Labels) : Type 0 where
  pub free : IsFreeBlock (cells_of (part_of plan) acts c) aside
  pub cells : start.cells ≡ die_cells plan.shape.blocks aside (cells_of (part_of plan) acts c)
  pub labels : first ≡ die_labels plan.shape.blocks aside (labels_of (part_of plan) pages acts c l)
  pub is : start ≡ mounted_start plan start.cells pages (full_accounts plan (sum_by (free_in plan) start.cells.blocks))
  pub opens : IsOpening start
  pub labelled : IsLabelled start first
  pub counts : CountFrom start.cells first.blocks from

-- how many blocks it has to empty at most: as many as full accounts take pages, each of which gives alpha
abbrev pub most_rounds_beside : DiePlan → ℕ
most_rounds_beside plan = (enough_of plan + plan.alpha - 1) / plan.alpha

-- how many acts it takes at most: for each of these blocks, copies of its pages less alpha, and the slots of its erase
abbrev pub most_acts_beside : DiePlan → ℕ
most_acts_beside plan = most_rounds_beside plan * (plan.shape.pages - plan.alpha + plan.shape.erase_slots)

-- a mount can get there, by not more acts than that, at each moment of which the power may go again
pub record CanStartBeside (plan : DiePlan) (from : ℕ → ℕ) (c : Cells) (pages : List PageData) (l : Labels) : Type 0 where
  pub acts : List Act
  pub few : length acts ≤ most_acts_beside plan
  pub rounds : FitRounds plan (most_rounds_beside plan) acts
  pub may : AreMountActs (part_of plan) c acts
  pub safe : AreSafe (part_of plan) c acts
  pub aside : ℕ
  pub start : Start
  pub first : Labels
  pub starts : StartsBeside plan from c pages l acts aside start first

-- where no erase is under way after these acts, and beside some wholly free block as many pages are free as full
-- accounts share out, a log may start so
abbrev pub EndsBeside : DiePlan → (from : ℕ → ℕ) → Cells → List PageData → Labels → List Act → Type 0
EndsBeside plan from c pages l acts =
    AreIdle (cells_of (part_of plan) acts c) → (aside : ℕ) → IsFreeBlock (cells_of (part_of plan) acts c) aside
    → enough_of plan + plan.shape.pages ≤ sum_by (free_in plan) (cells_of (part_of plan) acts c).blocks
    → (start : Start) × (first : Labels) × StartsBeside plan from c pages l acts aside start first

-- a mount that goes by what is seen of the part begins a log: it erases a block, closes the others, and does these acts
pub record MountsTo (plan : DiePlan) (from : ℕ → ℕ) (seen : Shown) (start : Start) (first : Labels) : Type 0 where
  pub erased : ℕ
  pub rule : MayErase (part_of plan) from seen erased
  pub next : ℕ
  pub above : IsAbove seen from next
  pub erases : ℕ → ℕ
  pub acts : List Act
  pub may : AreMountActs (part_of plan) (remounted_cells (part_of plan) from erased erases seen) acts
  pub aside : ℕ
  pub starts : StartsBeside plan from (remounted_cells (part_of plan) from erased erases seen) (found_pages plan from seen)
      (remounted_labels erased seen next) acts aside start first

-- Counts of erases

-- cells that agree in all but how many erases their blocks have had, which no label tells
pub record AgreeButErases (c d : Cells) : Type 0 where
  pub blocks : length d.blocks ≡ length c.blocks
  pub filled : (b : ℕ) → (block_at d b).filled ≡ (block_at c b).filled
  pub erasing : (b : ℕ) → (block_at d b).erasing ≡ (block_at c b).erasing
  pub places : d.places ≡ c.places

-- the start with these cells
abbrev pub with_cells : Cells → Start → Start
with_cells cells start = record start { cells = cells }

-- Logs

-- it holds of each log that starts at a labelled opening and is exact from there, and of whichever block stands aside,
-- on a part of at most 1,024 blocks
abbrev pub ForEveryLogOnPart : (Start → Labels → Log → ℕ → Type 0) → Type 0
ForEveryLogOnPart Holds =
    (start : Start) (first : Labels) → IsOpening start → IsLabelled start first → (log : Log) → IsExact start log
    → (aside : ℕ) → aside ≤ start.plan.shape.blocks → start.plan.shape.blocks < 1024
    → Holds start first log aside
