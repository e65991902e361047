-- What laws of exact logs say, and laws of a die's lives.
use Rattle.std.specs.Prelude.{List}
use Rattle.slot_types.specs.declared.plans.Times.{Times}
use Rattle.plan_rules.specs.Times.{Passes}
use Rattle.die_log.specs.Model.Log.{Log}
use Rattle.die_log.specs.Model.Start.{Start}
use Rattle.die_log.specs.Model.Answers.{IsExact}
use Rattle.die_log.specs.Model.Opening.{IsOpening}
use Rattle.die_log.specs.Results.Supply.{AreStocked}
use Rattle.die_log.specs.Model.Lives.{Lives, AreLives, HasLife}
use Rattle.die_log.specs.Results.PlannedLives.{Calls, KeepPlans}

-- it holds of each log that starts at an opening, so over a plan within its bound, and is exact from there
abbrev pub ForEveryExactLog : (Start → Log → Type 0) → Type 0
ForEveryExactLog Holds = (start : Start) → IsOpening start → (log : Log) → IsExact start log → Holds start log

-- it holds of all lives of a die together, from an opening on, at each moment of the newest one
abbrev pub ForAllLives : (Start → Lives → Type 0) → Type 0
ForAllLives Holds = (first : Start) → IsOpening first → (lives : Lives) → AreLives first lives → Holds first lives

-- it holds of each life of a die, with the lives before it
abbrev pub ForEachLife : (Start → Log → Lives → Type 0) → Type 0
ForEachLife Holds =
    ForAllLives (λ first lives. (log : Log) (earlier : Lives) → HasLife lives log earlier → Holds first log earlier)

-- it holds wherever a die starts stocked, at an opening whose plan passes the test of its times, and the calls of each
-- life keep the plan and end where its periods do
abbrev pub ForPlannedLives : (Start → Times → List Calls → Type 0) → Type 0
ForPlannedLives Holds =
    (first : Start) (times : Times) → IsOpening first → Passes first.plan times → AreStocked first times
    → (all : List Calls) → KeepPlans first.plan times all → Holds first times all
