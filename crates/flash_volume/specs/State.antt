-- A volume as its callers see it.
use Rattle.std.specs.Prelude.{ℕ, Bool, false, List, length, Option, None, replicate, slice_set}
use Rattle.slot_types.specs.declared.pages.Place.{Place}
use Rattle.slot_types.specs.declared.pages.PageData.{PageData}
use Rattle.slot_types.specs.declared.plans.DiePlan.{DiePlan}
use Rattle.plan_rules.specs.Accounts.{Accounts, opening_accounts}
use Rattle.flash_die.specs.Flash.{blank}
use Rattle.flash_volume.specs.declared.collection.Collection.{Collection}

-- whether it has failed, its array of pages, its accounts with their plan, its device, where each page lies, and by
-- task the collection that runs
pub record State (N : Type 0) : Type 0 where
  pub failed : Bool
  pub pages : List PageData
  pub accounts : Accounts
  pub device : N
  pub places : List (Option Place)
  pub running : List (Option Collection)

-- a volume on which nothing was done yet
abbrev pub fresh_volume : {N : Type 0} → DiePlan → N → State N
fresh_volume plan device = record {
  failed = false;
  pages = replicate plan.logical blank;
  accounts = opening_accounts plan;
  device = device;
  places = replicate plan.logical None;
  running = replicate (length plan.caps) None;
}

-- with a page that is blank and lies nowhere
abbrev pub trimmed_volume : {N : Type 0} → State N → ℕ → State N
trimmed_volume volume page = record volume { pages = slice_set volume.pages page blank; places = slice_set volume.places page None }
