-- What a collection does in its next slot, before it does it.
use Rattle.std.specs.Prelude.{◌≡◌, ℕ, Bool, List, Option, Some, None, IsSome, slice_index_or}
use Rattle.slot_types.specs.declared.pages.Place.{Place}
use Rattle.slot_types.specs.declared.pages.PageData.{PageData}
use Rattle.slot_types.specs.Places.{place_of}
use Rattle.flash_die.specs.declared.nand.NandCall.{NandCall}
use Rattle.flash_die.specs.Flash.{Block, blank}
use Rattle.flash_volume.specs.declared.collection.Collection.{Collection}
use Rattle.flash_volume.specs.declared.collection.Copied.{Copied}
use Rattle.flash_volume.specs.declared.collection.CollectStep.{CollectStep}
use Rattle.flash_volume.specs.declared.collection.CollectStep.TheVariants as steps
use Rattle.flash_volume.specs.Calls.{call_of}
use Rattle.flash_volume.specs.Cells.{open_in}
use Rattle.flash_volume.specs.Pages.{next_in}
use Rattle.flash_volume.specs.Picks.{IsVictim}
use Rattle.flash_volume.specs.Acts.{HasDropped, HasLeft, IsFirstInBlock, IsUnplaced}
use Rattle.flash_volume.specs.State.{State}

-- it reads the first page that lies in its victim
pub record ReadsNext (places : List (Option Place)) (c : Collection) (page : ℕ) (source : Place) : Type 0 where
  pub dropped : HasDropped places c
  pub left : HasLeft places c
  pub first : IsFirstInBlock places c.victim page source

-- it programs the page in its buffer, which still lies where it was read, to the next cell
pub record ProgramsNext {N : Type 0} (blocks : N → List Block) (v : State N) (c : Collection) (page : ℕ) (place : Place) (bytes : PageData)
    : Type 0 where
  pub copied : Copied
  pub holds : c.buffer ≡ Some copied
  pub page_is : copied.page ≡ page
  pub here : copied.source.block ≡ c.victim
  pub lies : place_of v.places page ≡ Some copied.source
  pub bytes_are : bytes ≡ slice_index_or v.pages page blank
  pub finds : IsSome (open_in v.accounts.plan.shape.pages (blocks v.device))
  pub place_is : place ≡ next_in blocks v

-- it does a slot of the erase of its victim, in which no page lies
pub record ErasesNext (places : List (Option Place)) (c : Collection) (block : ℕ) : Type 0 where
  pub victim : block ≡ c.victim
  pub dropped : HasDropped places c
  pub left : HasLeft places c
  pub unplaced : IsUnplaced places block

abbrev pub IsCollectStep : {N : Type 0} → (N → List Block) → State N → Collection → CollectStep → Type 0
IsCollectStep blocks v c (steps.Read page source) = ReadsNext v.places c page source
IsCollectStep blocks v c (steps.Program page place bytes) = ProgramsNext blocks v c page place bytes
IsCollectStep blocks v c (steps.Erase block) = ErasesNext v.places c block

-- the collection's next step was begun, and its call of the device, which is the only one, ended so
pub record EndsStep {N : Type 0} (ends : N → NandCall → Bool → N → Type 0) (blocks : N → List Block) (old : State N) (c : Collection)
    (well : Bool) (new : State N) : Type 0 where
  pub step : CollectStep
  pub is : IsCollectStep blocks old c step
  pub ended : ends old.device (call_of step) well new.device

-- a collection that begins takes its victim, and then this is its first step
pub record IsFirstStep {N : Type 0} (blocks : N → List Block) (v : State N) (step : CollectStep) : Type 0 where
  pub block : ℕ
  pub victim : IsVictim v.accounts.plan.shape.pages (blocks v.device) v.places v.running block
  pub is : IsCollectStep blocks v (record { victim = block; buffer = None }) step
