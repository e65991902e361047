-- A die that a run owns: what it is asked, one call after the other, and what comes of it.
use Rattle.std.specs.Prelude.{◌≡◌, ℕ, ◌-◌, ◌++◌, Bool, List, [], Option, Some, None, Result, Ok, Err, drop, length, max, IfErr}
use Rattle.std.specs.List.{FoldsTo}
use Rattle.slot_types.specs.declared.refusals.Refusal.{Refusal}
use Rattle.slot_types.specs.declared.replies.Reply.{Reply}
use Rattle.flash_die.specs.declared.nand.NandCall.{NandCall}
use Rattle.die_log.specs.Model.Log.{now}
use Rattle.slot_core.specs.Calls.{IsCall}
use Rattle.slot_core.specs.Core.{Core}
use Rattle.die_service.specs.declared.refused.RefusedAt.{RefusedAt}
use Rattle.die_service.specs.Drives.{Course, place_after, whole_course}
use Rattle.die_service.specs.Runs.{AskedEvent, InClockOrder, refused_from, stop_of}
use Rattle.die_service.specs.Work.{WorkCall, Before, Asked, After}

-- the die, the clock, and the events that are still to come, with those that came since they were last cleared
pub record DieRun (N : Type 0) : Type 0 where
  pub die : Core N
  pub clock : ℕ
  pub course : Course

-- a run of which nothing came yet, from the die's present slot on
abbrev pub fresh_run : {N : Type 0} → Core N → DieRun N
fresh_run die = record { die = die; clock = now die.log; course = whole_course [] }

-- what a die answers, without the number of entries that there were
abbrev pub result_of : Result Reply RefusedAt → Result Reply Refusal
result_of (Ok reply) = Ok reply
result_of (Err refused) = Err refused.refusal

-- why a run isn't to go on, if a slot was refused
abbrev pub result_of_stop : Option RefusedAt → Result Unit Refusal
result_of_stop None = Ok tt
result_of_stop (Some refused) = Err refused.refusal

module _ {N : Type 0} (ends : N → NandCall → Bool → N → Type 0) (failures : N → ℕ) (never_fails : Bool) where
  -- the die was asked this for caller 0, and a refusal says how many entries it had
  pub record IsAsked (before : Core N) (said : AskedEvent) (after : Core N) : Type 0 where
    pub called : IsCall ends failures never_fails 0 said.event (result_of said.reply) before after
    pub entries : IfErr said.reply (λ refused. refused.entries ≡ length before.log)

  -- what a worker calls of it: nothing but the die
  abbrev pub MayCallOwn : Core N → WorkCall → Core N → Type 0
  MayCallOwn before (Before die slot) after = after ≡ before
  MayCallOwn before (Asked said) after = IsAsked before said after
  MayCallOwn before (After die slot) after = after ≡ before

  -- Up to this slot the die was asked for each slot and for the events that come by it, in the order of the clock, and
  -- for nothing else: each of these calls is one that `IsCall` says, and the first slot that was refused is the last.
  pub record HasRunOn (until : ℕ) (old : DieRun N) (result : Result Unit Refusal) (new : DieRun N) : Type 0 where
    pub saids : List AskedEvent
    pub ordered : InClockOrder (until - old.clock) old.clock old.course.rest saids
    pub asked : FoldsTo IsAsked old.die saids new.die
    pub clock : new.clock ≡ max old.clock until
    pub place : new.course.place ≡ place_after old.course.place saids
    pub rest : new.course.rest ≡ drop (place_after 0 saids) old.course.rest
    pub refused : new.course.refused ≡ old.course.refused ++ refused_from old.course.place saids
    pub result_is : result ≡ result_of_stop (stop_of saids)
