-- A mount that goes by what its device showed when the power came.
use Rattle.std.specs.Prelude.{◌≡◌, ℕ, List, slice_index_or}
use Rattle.slot_types.specs.declared.acts.Act.{Act}
use Rattle.slot_types.specs.declared.pages.PageData.{PageData}
use Rattle.die_log.specs.Model.Start.{blank_page}
use Rattle.die_mount.specs.Cutting.{GoesBy, labels_at}
use Rattle.die_mount.specs.Mounting.{Mounting}
use Rattle.die_mount.specs.declared.stage.Stage.{Stage}
use Rattle.die_mount.specs.declared.stage.Stage.TheVariants as stage
use Rattle.power_loss.specs.Labels.{Labels, Shown}
use Rattle.part_mount.specs.OnPart.{OnPart}

-- the labels of the part: those that were seen, until the first block is erased, and then those after the mount's acts
abbrev pub HasLabelsAt : List PageData → Shown → (erased next : ℕ) → List Act → Mounting → Shown → Stage → Type 0
HasLabelsAt pages seen erased next acts m now (stage.First block slots) = now ≡ seen
HasLabelsAt pages seen erased next acts m now (stage.Read page from) = now ≡ (labels_at pages seen erased next acts m).blocks
HasLabelsAt pages seen erased next acts m now (stage.Program page from to) = now ≡ (labels_at pages seen erased next acts m).blocks
HasLabelsAt pages seen erased next acts m now (stage.Erase block slots) = now ≡ (labels_at pages seen erased next acts m).blocks
HasLabelsAt pages seen erased next acts m now stage.Done = now ≡ (labels_at pages seen erased next acts m).blocks

-- what was read is the page that is programmed next
abbrev pub HoldsAt : List PageData → PageData → Stage → Type 0
HoldsAt pages held (stage.First block slots) = Unit {0}
HoldsAt pages held (stage.Read page from) = Unit {0}
HoldsAt pages held (stage.Program page from to) = held ≡ slice_index_or pages page blank_page
HoldsAt pages held (stage.Erase block slots) = Unit {0}
HoldsAt pages held stage.Done = Unit {0}

-- the mount came here by these acts, from what was seen with these pages, and the part has the labels after them
pub record GoesBySeen {N : Type 0} (labels : N → Labels) (pages : List PageData) (seen : Shown) (v : OnPart N) : Type 0 where
  pub next : ℕ
  pub acts : List Act
  pub by : GoesBy pages seen v.erased next acts v.mount
  pub has : HasLabelsAt pages seen v.erased next acts v.mount (labels v.part).blocks v.mount.stage
  pub holds : HoldsAt pages v.held v.mount.stage
