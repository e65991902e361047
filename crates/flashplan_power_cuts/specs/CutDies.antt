-- A die on a part whose power goes, as its callers see it.
use Rattle.std.specs.Prelude.{◌≡◌, ℕ, Bool, true, false, List, Option, Some, None, Result, Ok, Err}
use Rattle.std.specs.Box.{box_value}
use Rattle.slot_types.specs.declared.events.Event.{Event}
use Rattle.slot_types.specs.declared.refusals.Refusal.{Refusal}
use Rattle.slot_types.specs.declared.refusals.Refusal.TheVariants as refuses
use Rattle.slot_core.specs.Core.{Core}
use Rattle.stepped_die.specs.Stepped.{Stepped}
use Rattle.flashplan_script_runs.specs.RunningDies.{CarriesSlot, IsAsked, RunningDie, running_of as core_running}
use Rattle.flashplan_power_cuts.specs.declared.cut_dies.Ended.{Ended}
use Rattle.flashplan_power_cuts.specs.declared.cut_dies.Ended.TheVariants as ends
use Rattle.flashplan_power_cuts.specs.declared.cut_dies.CutDie.TheInside.{Inside}
use Rattle.flashplan_power_cuts.specs.declared.page_writes.PageWrite.{PageWrite}
use Rattle.flashplan_power_cuts.specs.Writes.{writes_of}

-- the die; the writes of the lives before, and those of its log; how many calls of the part came; and whether it runs no
-- longer
pub record Cutting : Type 0 where
  pub die : Stepped
  pub earlier : List PageWrite
  pub writes : List PageWrite
  pub calls : ℕ
  pub ended : Option Ended

abbrev pub cutting_of : Inside → Cutting
cutting_of d = record {
  die = box_value d.die;
  earlier = d.beneath.earlier.items;
  writes = d.beneath.writes.items;
  calls = d.beneath.calls;
  ended = d.ended;
}

-- While it runs no slot has begun. A read that gave other bytes alone stops the die. The writes are those of its log, unless
-- there was no memory for one
pub record IsCutting (d : Cutting) : Type 0 where
  pub idle : d.ended ≡ None → d.die.begun ≡ None
  pub runs : (d.ended ≡ Some ends.Misread → ⊥) → d.die.core.stopped ≡ false
  pub writes : (d.ended ≡ Some ends.NoMemory → ⊥) → d.writes ≡ writes_of d.die.core.log

abbrev pub has_stopped : Option Ended → Bool
has_stopped None = false
has_stopped (Some ends.NoMemory) = false
has_stopped (Some _) = true

-- as one that runs the rows of a script: it has stopped once it runs no longer, unless that is for memory
abbrev pub running_of : Cutting → RunningDie
running_of d = record { start = d.die.core.start; log = d.die.core.log; stopped = has_stopped d.ended }

-- how a slot is refused in which it ends
abbrev pub refusal_by : Ended → Refusal
refusal_by ends.NoMemory = refuses.NoMemory
refusal_by _ = refuses.DeviceFault

-- Calls

-- a slot was carried out, and what it wrote is noted
pub record EndsNoting (before : RunningDie) (noted : List PageWrite) (after : RunningDie) (now_noted : List PageWrite) : Type 0 where
  pub carried : CarriesSlot before after
  pub more : noted ≡ writes_of before.log → now_noted ≡ writes_of after.log

-- or the die ends in it: then it isn't in the log, unless there was no memory to note it
pub record StopsSlot (ended : Ended) (before : RunningDie) (noted : List PageWrite) (after : RunningDie) (now_noted : List PageWrite)
    : Type 0 where
  pub start_stays : after.start ≡ before.start
  pub log_stays : (ended ≡ ends.NoMemory → ⊥) → after.log ≡ before.log
  pub noted_stay : (ended ≡ ends.NoMemory → ⊥) → now_noted ≡ noted
  pub runs : (ended ≡ ends.Misread → ⊥) → after.stopped ≡ false

abbrev pub EndsSlot : {A : Type 0} → Result A Ended → RunningDie → List PageWrite → RunningDie → List PageWrite → Type 0
EndsSlot (Ok x) before noted after now_noted = EndsNoting before noted after now_noted
EndsSlot (Err ended) before noted after now_noted = StopsSlot ended before noted after now_noted

-- a die was asked for what a row says, which is no write
pub record AsksDie {N : Type 0} (event : Event) (refusal : Option Refusal) (before after : Core N) : Type 0 where
  pub asked : IsAsked event refusal (core_running before) (core_running after)
  pub writes : writes_of after.log ≡ writes_of before.log
