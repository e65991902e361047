-- What is printed of runs whose power goes.
use Rattle.std.specs.Prelude.{◌≡◌, ◌⊎◌, ℕ, zero, suc, Bool, true, false, List, Option, Some, None}
use Rattle.std.specs.Io.KnownBytes.{Appends}
use Rattle.slot_types.specs.declared.plans.DiePlan.{DiePlan}
use Rattle.text_base.specs.Writing.{IsNotWhole}
use Rattle.flashplan_words.specs.declared.asked.Leftover.{Leftover}
use Rattle.flashplan_words.specs.declared.asked.Leftover.TheVariants as left
use Rattle.flashplan_labelled_parts.specs.declared.cuts.Leaves.{Leaves}
use Rattle.flashplan_labelled_parts.specs.declared.cuts.Leaves.TheVariants as leaves
use Rattle.flashplan_power_cuts.specs.Told.{TellsCut, TellsEach}
use Rattle.flashplan_power_cuts.specs.declared.runs.CutAt.{CutAt}
use Rattle.flashplan_power_cuts.specs.declared.told.Told.{Told}
use Rattle.flashplan_commands.specs.PlanKinds.{ReadsStore}

-- what is left of a call, as the words name it; nothing of it, where they don't
abbrev pub leaves_named : Leftover → Leaves
leaves_named left.Blank = leaves.Blank
leaves_named left.Torn = leaves.Torn
leaves_named left.Whole = leaves.Whole

abbrev pub leaves_or_blank : Option Leftover → Leaves
leaves_or_blank None = leaves.Blank
leaves_or_blank (Some named) = leaves_named named

-- how the power goes
abbrev pub cut_named : (die call : ℕ) → Option Leftover → (looks : ℕ) → CutAt
cut_named die call named looks = record {
  die = die;
  call = call;
  loss = record { leaves = leaves_or_blank named; looks = looks };
}

-- The text of a cut is printed: of a die that began fresh by the plan of the store that was read, and ran the script that
-- was read, until its power went so; and whether no page is wrong
pub record PrintsCut (plan script : Option (List ℕ)) (slots : ℕ) (at : CutAt) (right : Bool) (old new : Option (List ℕ)) : Type 0 where
  pub store : List DiePlan
  pub read : ReadsStore plan store
  pub slot_us : Option ℕ
  pub told : Told
  pub tells : TellsCut store script slots at slot_us told
  pub verdict : told.right ≡ right
  pub written : Appends old new told.text.items

-- the text of cuts at each call is printed, and whether none was wrong
pub record PrintsEach (plan script : Option (List ℕ)) (slots die : ℕ) (right : Bool) (old new : Option (List ℕ)) : Type 0 where
  pub store : List DiePlan
  pub read : ReadsStore plan store
  pub slot_us : Option ℕ
  pub told : Told
  pub tells : TellsEach store script slots die slot_us told
  pub verdict : told.right ≡ right
  pub written : Appends old new told.text.items

-- of one call, or of each, where none is named
abbrev pub PrintsCutting : (plan script : Option (List ℕ)) (slots die at : ℕ) → Option Leftover → (looks : ℕ) → Bool
    → Option (List ℕ) → Option (List ℕ) → Type 0
PrintsCutting plan script slots die zero named looks right old new = PrintsEach plan script slots die right old new
PrintsCutting plan script slots die (suc at) named looks right old new =
    PrintsCut plan script slots (cut_named die (suc at) named looks) right old new

-- the status of what is printed: 3 where something is wrong; else 0, or 1 where a checkpoint can't be written
abbrev pub CutStatus : Bool → ℕ → Type 0
CutStatus false status = status ≡ 3
CutStatus true status = (status ≡ 0) ⊎ (status ≡ 1)

-- it is printed; or it is refused, or a part isn't mounted
abbrev pub EndsCut : {W : Type 0} → (W → Option (List ℕ)) → (W → Option Bool)
    → (Bool → Option (List ℕ) → Option (List ℕ) → Type 0) → W → W → ℕ → Type 0
EndsCut contents has_failed prints old new status =
    ((right : Bool) × prints right (contents old) (contents new) × CutStatus right status)
    ⊎ (IsNotWhole contents has_failed (λ before after. (right : Bool) × prints right before after) old new
    × ((status ≡ 1) ⊎ (status ≡ 3)))
