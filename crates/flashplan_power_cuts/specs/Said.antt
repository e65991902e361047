-- What pages give after a loss of power, beside the run before it.
use Rattle.std.specs.Prelude.{◌≡◌, ◌⊎◌, ℕ, All, List, Option, Some, None, IsSome, map}
use Rattle.std.specs.List.{range_with_len}
use Rattle.slot_types.specs.Places.{place_of}
use Rattle.slot_types.specs.declared.pages.PageData.{PageData}
use Rattle.die_log.specs.Model.Flash.{cells, content}
use Rattle.die_log.specs.Model.Start.{blank_page}
use Rattle.slot_core.specs.declared.next_slot.NextAct.{NextAct}
use Rattle.slot_core.specs.declared.next_slot.NextAct.TheVariants as acts
use Rattle.stepped_die.specs.declared.calls.Begun.{Begun}
use Rattle.stepped_die.specs.declared.calls.Call.{Call}
use Rattle.stepped_die.specs.declared.calls.Call.TheVariants as calls
use Rattle.stepped_die.specs.Stepped.{Stepped}
use Rattle.flashplan_power_cuts.specs.declared.page_writes.PageWrite.{PageWrite}
use Rattle.flashplan_power_cuts.specs.declared.said.Gives.{Gives}
use Rattle.flashplan_power_cuts.specs.declared.said.Gives.TheVariants as gives
use Rattle.flashplan_power_cuts.specs.declared.said.PageSaid.{PageSaid}
use Rattle.flashplan_power_cuts.specs.Writes.{HasWrite}

-- what a page of a die holds, by its log
abbrev pub held_by : Stepped → ℕ → PageData
held_by die page = content die.core.start die.core.log page

-- the log has the page in a cell, or in none
abbrev pub IsPlaced : Stepped → ℕ → Type 0
IsPlaced die page = IsSome (place_of (cells die.core.start die.core.log).places page)

abbrev pub IsUnplaced : Stepped → ℕ → Type 0
IsUnplaced die page = place_of (cells die.core.start die.core.log).places page ≡ None

-- the write that a slot makes, by its call and by what it does
abbrev pub write_by : Option Call → Option (ℕ × NextAct) → Option PageWrite
write_by (Some (calls.Program place bytes erases)) (Some (job, acts.Write page)) = Some (record { page = page; bytes = bytes })
write_by call runs = None

-- that of the slot which has begun
abbrev pub writing_by : Option Begun → Option PageWrite
writing_by None = None
writing_by (Some begun) = write_by begun.call begun.runs

abbrev pub IsWriting : Stepped → ℕ → PageData → Type 0
IsWriting die page bytes = writing_by die.begun ≡ Some (record { page = page; bytes = bytes })

-- these bytes are the page's last finished write
abbrev pub IsLast : Stepped → ℕ → PageData → Type 0
IsLast die page bytes = IsPlaced die page × (bytes ≡ held_by die page)

-- it lies nowhere, and these bytes are blank
abbrev pub IsBlank : Stepped → ℕ → PageData → Type 0
IsBlank die page bytes = IsUnplaced die page × (bytes ≡ blank_page)

-- it lies nowhere, and these bytes were written on it, in one of the lives before or in this one
abbrev pub IsEarlier : Stepped → (earlier writes : List PageWrite) → ℕ → PageData → Type 0
IsEarlier die earlier writes page bytes = IsUnplaced die page × (HasWrite earlier page bytes ⊎ HasWrite writes page bytes)

-- what bytes of a page are to a run up to a loss of power; what is wrong is none of the others
abbrev pub IsGiven : Stepped → (earlier writes : List PageWrite) → ℕ → PageData → Gives → Type 0
IsGiven die earlier writes page bytes gives.Last = IsLast die page bytes
IsGiven die earlier writes page bytes gives.InProgress = IsWriting die page bytes
IsGiven die earlier writes page bytes gives.Blank = IsBlank die page bytes
IsGiven die earlier writes page bytes gives.Earlier = IsEarlier die earlier writes page bytes
IsGiven die earlier writes page bytes gives.Wrong =
    (IsLast die page bytes → ⊥) × (IsWriting die page bytes → ⊥) × (IsBlank die page bytes → ⊥)
    × (IsEarlier die earlier writes page bytes → ⊥)

-- what is said of a page: what the mounted die gives of it, and what that is to the run before
pub record SaysOf (die : Stepped) (earlier writes : List PageWrite) (mounted : Stepped) (said : PageSaid) : Type 0 where
  pub bytes : said.bytes ≡ held_by mounted said.page
  pub given : IsGiven die earlier writes said.page said.bytes said.gives

-- so it is of each page
pub record SaysAll (die : Stepped) (earlier writes : List PageWrite) (mounted : Stepped) (said : List PageSaid) : Type 0 where
  pub each : All (SaysOf die earlier writes mounted) said
  pub pages : map (λ (page : PageSaid). page.page) said ≡ range_with_len 0 mounted.core.start.plan.logical

-- it is none of the wrong ones
abbrev pub IsRight : PageSaid → Type 0
IsRight said = said.gives ≡ gives.Wrong → ⊥
