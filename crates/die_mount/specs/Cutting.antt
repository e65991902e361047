-- Where a mount stands that went by what was seen, what may be seen where the power goes, and how it ends.
use Rattle.std.specs.Prelude.{ℕ, ◌<◌, List, Some}
use Rattle.slot_types.specs.declared.pages.PageData.{PageData}
use Rattle.slot_types.specs.declared.acts.Act.{Act}
use Rattle.slot_types.specs.declared.acts.Act.TheVariants as does
use Rattle.plan_rules.specs.Bound.{MeetsBound}
use Rattle.die_log.specs.Model.Start.{Start}
use Rattle.power_loss.specs.Aside.{StandsOnPart, StartsBeside, part_of}
use Rattle.power_loss.specs.Labels.{Labels, Shown}
use Rattle.power_loss.specs.Mounted.{all_count}
use Rattle.power_loss.specs.Recovery.{IsAbove, MayErase, MaySeeInErase, labels_of, remounted_labels}
use Rattle.power_loss.specs.Seen.{MaySeeAfter, MaySeeDuring}
use Rattle.die_mount.specs.declared.stage.Stage.{Stage}
use Rattle.die_mount.specs.declared.stage.Stage.TheVariants as stage
use Rattle.die_mount.specs.Mounting.{Mounting, IsMountOf, first_cells}

-- a part was seen from which a mount can go on, with these pages; the mount erases a block that it may, took a serial
-- above all, and came here by these acts
pub record GoesBy (pages : List PageData) (before : Shown) (erased next : ℕ) (acts : List Act) (m : Mounting) : Type 0 where
  pub bound : MeetsBound m.plan
  pub beside : m.plan.shape.blocks < 1024
  pub stood : StandsOnPart m.plan pages all_count before
  pub may : MayErase (part_of m.plan) all_count before erased
  pub above : IsAbove before all_count next
  pub is : IsMountOf before erased next acts m

-- the labels that the part has then
abbrev pub labels_at : List PageData → Shown → (erased next : ℕ) → List Act → Mounting → Labels
labels_at pages before erased next acts m =
    labels_of (part_of m.plan) pages acts (first_cells m.plan erased before) (remounted_labels erased before next)

-- what may be seen of the part where the power goes there, before the call that comes next or during it
abbrev pub MaySeeCutAt : List PageData → Shown → (erased next : ℕ) → List Act → Mounting → Stage → Shown → Type 0
MaySeeCutAt pages before erased next acts m (stage.First block slots) seen = MaySeeInErase erased before seen
MaySeeCutAt pages before erased next acts m (stage.Read page from) seen = MaySeeAfter m.cells (labels_at pages before erased next acts m) seen
MaySeeCutAt pages before erased next acts m (stage.Program page from to) seen =
    MaySeeDuring (part_of m.plan) m.cells pages (labels_at pages before erased next acts m) (Some (0, does.CopyProgram page)) seen
MaySeeCutAt pages before erased next acts m (stage.Erase block slots) seen =
    MaySeeDuring (part_of m.plan) m.cells pages (labels_at pages before erased next acts m) (Some (0, does.Erase block)) seen
MaySeeCutAt pages before erased next acts m stage.Done seen = MaySeeAfter m.cells (labels_at pages before erased next acts m) seen

abbrev pub MaySeeCut : List PageData → Shown → (erased next : ℕ) → List Act → Mounting → Shown → Type 0
MaySeeCut pages before erased next acts m seen = MaySeeCutAt pages before erased next acts m m.stage seen

-- a log may start with full accounts and with these pages, beside a block that is wholly free
abbrev pub StartsLog : List PageData → Shown → (erased next : ℕ) → List Act → Mounting → Type 0
StartsLog pages before erased next acts m =
    (aside : ℕ) × (start : Start) × (first : Labels) × StartsBeside m.plan all_count (first_cells m.plan erased before) pages
    (remounted_labels erased before next) acts aside start first
