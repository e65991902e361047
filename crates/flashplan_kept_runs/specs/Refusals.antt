-- Why a row is refused, and why there is no run, as texts.
use Rattle.std.specs.Prelude.{ℕ, List, ◌++◌, codes, decimal, Option}
use Rattle.slot_types.specs.Texts.{refusal_text}
use Rattle.planned_log.specs.declared.refusals.AskRefusal.{AskRefusal}
use Rattle.planned_log.specs.declared.refusals.AskRefusal.TheVariants as ask
use Rattle.flashplan_kept_runs.specs.declared.refusals.KeptFault.{KeptFault}
use Rattle.flashplan_kept_runs.specs.declared.refusals.KeptFault.TheVariants as fault
use Rattle.flashplan_kept_runs.specs.declared.refusals.RowRefusal.{RowRefusal}
use Rattle.flashplan_kept_runs.specs.declared.refusals.RowRefusal.TheVariants as row
use Rattle.flashplan_slot_times.specs.Times.{slots_text}

-- In these texts a number of slots is followed by its time, where it is known how many us a slot takes.

-- what a job had that the plan refuses, and what would do
abbrev pub ask_text : Option ℕ → AskRefusal → List ℕ
ask_text us ask.DieStopped = codes "the device of its die failed before"
ask_text us ask.UnknownTask = codes "its task isn't on its die"
ask_text us ask.EmptyJob = codes "it has no operation"
ask_text us (ask.TooManyOps most) = codes "it has more operations than its task may ask for at once, which is " ++ decimal most
ask_text us (ask.BadPage page) = codes "page " ++ decimal page ++ codes " isn't below `logical`"
ask_text us (ask.TooManyWrites most) = codes "it has more writes than its task may ask for at once, which is " ++ decimal most
ask_text us (ask.TooSoon next) =
    codes "with what its task asked for in the last period it is too much; it would be taken in slot " ++ slots_text us next
ask_text us ask.LifeEnd = codes "it would be due after the last slot of its die's life"

-- what a row had
abbrev pub row_text : Option ℕ → RowRefusal → List ℕ
row_text us row.OtherTimes = codes "its release isn't its slot, or its deadline isn't as many slots later as the plan gives its task"
row_text us (row.Ask refusal) = ask_text us refusal

-- why there is no run
abbrev pub fault_text : Option ℕ → KeptFault → List ℕ
fault_text us (fault.Refused refusal) = refusal_text refusal
fault_text us (fault.NoLife die) = codes "the plan of die " ++ decimal die ++ codes " has no life: no number of slots is one"
fault_text us (fault.LongerThanLife die life) =
    codes "a life of die " ++ decimal die ++ codes " has " ++ slots_text us life ++ codes " slots: --slots may be that at most"
