-- The calls that a mount made, and what they cost.
use Rattle.std.specs.Prelude.{◌≡◌, ℕ, ◌+◌, ◌-◌, ◌^◌, min, if◌then◌else◌, Bool, List, [], ◌∷◌, Option, Some, None, slice_index_or}
use Rattle.slot_types.specs.declared.pages.PageData.{PageData}
use Rattle.die_log.specs.Model.Flash.{block_at}
use Rattle.die_mount.specs.declared.stage.MountCall.{MountCall}
use Rattle.die_mount.specs.declared.stage.MountCall.TheVariants as does
use Rattle.die_mount.specs.Mounting.{Mounting, IsStep, call_at, ends_erase_at}
use Rattle.die_mount.specs.Ending.{IsEndOf}
use Rattle.flashplan_labelled_parts.specs.declared.mounts.MountEnd.{MountEnd}
use Rattle.flashplan_labelled_parts.specs.declared.part_calls.PartCall.{PartCall}
use Rattle.flashplan_labelled_parts.specs.declared.part_calls.PartCall.TheVariants as calls
use Rattle.flashplan_labelled_parts.specs.declared.costs.MountCosts.{MountCosts}

-- where a mount stood before each of its calls, the newest first
abbrev pub WentOn : Mounting → List Mounting → Mounting → Type 0
WentOn first [] m = m ≡ first
WentOn first (before ∷ earlier) m = WentOn first earlier before × IsStep before m

-- how often a block was erased, as a mount counts
abbrev pub erases_by : Mounting → ℕ → ℕ
erases_by m block = slice_index_or m.counts block 0 + (block_at m.cells block).erases

-- the call of the part that a call of a mount is; a program has the bytes that were read last
abbrev pub part_call : Mounting → PageData → MountCall → PartCall
part_call m bytes (does.EraseSlot block) = calls.EraseSlot block
part_call m bytes (does.Read place) = calls.Read place
part_call m bytes (does.Program place label) = calls.Program place label (erases_by m place.block) bytes

-- one more, up to the greatest number of 64 bits
abbrev pub one_more : ℕ → ℕ
one_more n = min (n + 1) (2 ^ 64 - 1)

-- both, up to that number
abbrev pub sum_upto : ℕ → ℕ → ℕ
sum_upto m n = min (m + n) (2 ^ 64 - 1)

-- how many slots these calls take at most, each of which is done within one
abbrev pub took : MountCosts → ℕ
took costs = sum_upto (sum_upto (sum_upto costs.labels costs.reads) costs.copies) costs.erase_slots

-- with one call more, which is the last slot of an erase or isn't
abbrev pub costs_by : MountCall → Bool → MountCosts → MountCosts
costs_by (does.Read place) last costs = record costs { reads = one_more costs.reads }
costs_by (does.Program place label) last costs = record costs { copies = one_more costs.copies }
costs_by (does.EraseSlot block) last costs = record costs {
  erase_slots = one_more costs.erase_slots;
  erases = if last then one_more costs.erases else costs.erases;
}

-- with one more, if one comes
abbrev pub costs_if : Option MountCall → Bool → MountCosts → MountCosts
costs_if None last costs = costs
costs_if (Some call) last costs = costs_by call last costs

-- with the next call of a mount
abbrev pub costs_with : Mounting → MountCosts → MountCosts
costs_with m costs = costs_if (call_at m.next m.stage) (ends_erase_at m.plan m.stage) costs

-- what these calls cost beside what was counted before
abbrev pub costs_of : MountCosts → List Mounting → MountCosts
costs_of first [] = first
costs_of first (m ∷ earlier) = costs_with m (costs_of first earlier)

-- the costs of `labels` labels, and of nothing else
abbrev pub labels_alone : ℕ → MountCosts
labels_alone labels = record { labels = labels; reads = 0; copies = 0; erase_slots = 0; erases = 0 }

-- a mount went on by these calls, which are counted
pub record WentCounting (before : Mounting) (counted : MountCosts) (after : Mounting) (costs : MountCosts) : Type 0 where
  pub calls : List Mounting
  pub went : WentOn before calls after
  pub costs_are : costs ≡ costs_of counted calls

-- A whole mount: its calls, one after the other, from what was read of labels to its end, are those that are counted
pub record HasMounted (end : MountEnd) : Type 0 where
  pub first : Mounting
  pub labels : ℕ
  pub last : Mounting
  pub went : WentCounting first (labels_alone labels) last end.costs
  pub ends : IsEndOf last end.mounted
