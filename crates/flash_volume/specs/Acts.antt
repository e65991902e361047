-- What a collection does in a slot.
use Rattle.std.specs.Prelude.{◌≡◌, ◌≢◌, ℕ, ◌+◌, ◌-◌, ◌<◌, ◌≤◌, false, List, count_by, Option, Some, None, IsSome, slice_index, slice_set}
use Rattle.slot_types.specs.declared.pages.Place.{Place}
use Rattle.slot_types.specs.Places.{place_of, owner_of, is_in}
use Rattle.plan_rules.specs.Accounts.{given_of, accounts_after_copy, accounts_after_collection, accounts_after_waiver}
use Rattle.flash_die.specs.Flash.{Block, block_at, blocks_after_program, blocks_after_erase_slot}
use Rattle.flash_volume.specs.declared.collection.Collection.{Collection}
use Rattle.flash_volume.specs.declared.collection.Copied.{Copied}
use Rattle.flash_volume.specs.declared.collection.Began.{Began}
use Rattle.flash_volume.specs.declared.collection.Began.TheVariants as starts
use Rattle.flash_volume.specs.declared.collection.Collected.{Collected}
use Rattle.flash_volume.specs.declared.collection.Collected.TheVariants as does
use Rattle.flash_volume.specs.Cells.{open_in, next_cell}
use Rattle.flash_volume.specs.Running.{with_buffer, copied_of}
use Rattle.flash_volume.specs.Picks.{IsVictim}
use Rattle.flash_volume.specs.State.{State}

-- The beginning

-- the collection is waived: enough pages are spare
pub record Waives {N : Type 0} (old : State N) (task gift : ℕ) (new : State N) : Type 0 where
  pub spare : old.accounts.plan.alpha ≤ old.accounts.spare
  pub given : gift ≡ given_of old.accounts task
  pub moved : new ≡ record old { accounts = accounts_after_waiver old.accounts task }

-- it takes its victim, in which no more pages lie than its reserve can hold
pub record Begins {N : Type 0} (blocks : N → List Block) (old : State N) (task block : ℕ) (new : State N) : Type 0 where
  pub short : old.accounts.spare < old.accounts.plan.alpha
  pub victim : IsVictim old.accounts.plan.shape.pages (blocks old.device) old.places old.running block
  pub few : count_by (is_in block) old.places ≤ old.accounts.plan.shape.pages - old.accounts.plan.alpha
  pub moved : new ≡ record old { running = slice_set old.running task (Some (record { victim = block; buffer = None })) }

abbrev pub DoesBegin : {N : Type 0} → (N → List Block) → State N → ℕ → Began → State N → Type 0
DoesBegin blocks old task (starts.Waived given) new = Waives old task given new
DoesBegin blocks old task (starts.Begun victim) new = Begins blocks old task victim new

-- The acts

-- the page in the buffer no longer lies in the victim
abbrev pub HasDropped : List (Option Place) → Collection → Type 0
HasDropped places c = (copied : Copied) (place : Place) → c.buffer ≡ Some copied → place_of places copied.page ≡ Some place → place.block
    ≢ c.victim

-- the page in the buffer no longer lies where it was read
abbrev pub HasLeft : List (Option Place) → Collection → Type 0
HasLeft places c = (copied : Copied) → c.buffer ≡ Some copied → place_of places copied.page ≡ Some copied.source → ⊥

-- no page lies in the block
abbrev pub IsUnplaced : List (Option Place) → ℕ → Type 0
IsUnplaced places block = (page : ℕ) (place : Place) → place_of places page ≡ Some place → place.block ≢ block

-- of the pages that lie in the block this one lies first
pub record IsFirstInBlock (places : List (Option Place)) (block page : ℕ) (source : Place) : Type 0 where
  pub here : source.block ≡ block
  pub lies : place_of places page ≡ Some source
  pub owns : owner_of places source ≡ Some page
  pub first : (earlier : ℕ) → earlier < source.page → owner_of places (record { block = block; page = earlier }) ≡ None

-- it reads the first page of its victim into its buffer
pub record Reads {N : Type 0} (blocks : N → List Block) (old : State N) (task : ℕ) (c : Collection) (page : ℕ) (new : State N) : Type 0
  where
    pub source : Place
    pub dropped : HasDropped old.places c
    pub left : HasLeft old.places c
    pub first : IsFirstInBlock old.places c.victim page source
    pub cells : blocks new.device ≡ blocks old.device
    pub places : new.places ≡ old.places
    pub pages : new.pages ≡ old.pages
    pub accounts : new.accounts ≡ old.accounts
    pub running : new.running ≡ slice_set old.running task (Some (with_buffer c (Some (copied_of (blocks old.device) page source))))
    pub well : new.failed ≡ false

-- it programs the page in its buffer, which still lies where it was read, and spends a page of its reserve
pub record Programs {N : Type 0} (blocks : N → List Block) (old : State N) (task : ℕ) (c : Collection) (page : ℕ) (new : State N) : Type 0
  where
    pub copied : Copied
    pub holds : c.buffer ≡ Some copied
    pub page_is : copied.page ≡ page
    pub here : copied.source.block ≡ c.victim
    pub lies : place_of old.places page ≡ Some copied.source
    pub finds : IsSome (open_in old.accounts.plan.shape.pages (blocks old.device))
    pub cells : blocks new.device ≡ blocks_after_program (blocks old.device) (next_cell old.accounts.plan.shape.pages (blocks old.device)).block
        copied.bytes
    pub places : new.places ≡ slice_set old.places page (Some (next_cell old.accounts.plan.shape.pages (blocks old.device)))
    pub pages : new.pages ≡ old.pages
    pub accounts : new.accounts ≡ accounts_after_copy old.accounts task
    pub running : new.running ≡ slice_set old.running task (Some (with_buffer c None))
    pub well : new.failed ≡ false

-- it does one slot of the erase of its victim
pub record Erases {N : Type 0} (blocks : N → List Block) (old : State N) (c : Collection) (block : ℕ) (new : State N) : Type 0 where
  pub victim : block ≡ c.victim
  pub unplaced : IsUnplaced old.places block
  pub cells : blocks new.device ≡ blocks_after_erase_slot (blocks old.device) old.accounts.plan.shape.erase_slots block
  pub places : new.places ≡ old.places
  pub pages : new.pages ≡ old.pages
  pub well : new.failed ≡ false

-- which is not the last
pub record Goes {N : Type 0} (blocks : N → List Block) (old : State N) (task : ℕ) (c : Collection) (block : ℕ) (new : State N) : Type 0
  where
    pub dropped : HasDropped old.places c
    pub left : HasLeft old.places c
    pub erases : Erases blocks old c block new
    pub going : (block_at (blocks old.device) block).erasing + 1 ≢ old.accounts.plan.shape.erase_slots
    pub accounts : new.accounts ≡ old.accounts
    pub running : new.running ≡ slice_set old.running task (Some (with_buffer c None))

-- which is the last, and settles: what was copied is what its reserve lacks
pub record Finishes {N : Type 0} (blocks : N → List Block) (old : State N) (task : ℕ) (c : Collection) (block gift : ℕ) (new : State N) :
    Type 0 where
  pub dropped : HasDropped old.places c
  pub left : HasLeft old.places c
  pub erases : Erases blocks old c block new
  pub last : (block_at (blocks old.device) block).erasing + 1 ≡ old.accounts.plan.shape.erase_slots
  pub given : gift ≡ given_of old.accounts task
  pub accounts : new.accounts ≡ accounts_after_collection old.accounts task
      (old.accounts.plan.shape.pages - old.accounts.plan.alpha - slice_index old.accounts.reserves task)
  pub running : new.running ≡ slice_set old.running task None

abbrev pub Does : {N : Type 0} → (N → List Block) → State N → ℕ → Collection → Collected → State N → Type 0
Does blocks old task c (does.CopyRead page) new = Reads blocks old task c page new
Does blocks old task c (does.CopyProgram page) new = Programs blocks old task c page new
Does blocks old task c (does.EraseSlot block) new = Goes blocks old task c block new
Does blocks old task c (does.Finished block given) new = Finishes blocks old task c block given new
