-- Changes of one number with which a plan would do, and which of them is cheaper.
use Rattle.std.specs.Prelude.{◌≡◌, ◌==◌, ℕ, ◌+◌, ◌-◌, ◌*◌, ◌/◌, max, List, [], ◌∷◌, ◌++◌, flat_map, codes, Option, Some, None}
use Rattle.std.specs.Prelude.{if◌then◌else◌, slice_index}
use Rattle.std.specs.List.Sorted.{IsNonDecreasingBy, IsPermutation}
use Rattle.slot_types.specs.declared.plans.DiePlan.{DiePlan}
use Rattle.slot_types.specs.declared.plans.TaskTimes.{TaskTimes}
use Rattle.slot_types.specs.declared.plans.Times.{Times}
use Rattle.plan_rules.specs.Times.{times_of}
use Rattle.plan_texts.specs.Stores.{die_of}
use Rattle.plan_texts.specs.declared.numbers.PlanNumbers.{PlanNumbers}
use Rattle.flashplan_slot_times.specs.Times.{slots_text}
use Rattle.flashplan_design.specs.Findings.{name_text}
use Rattle.flashplan_design.specs.declared.changes.Change.{Change}
use Rattle.flashplan_design.specs.declared.findings.Finding.{Finding}
use Rattle.flashplan_design.specs.declared.findings.Finding.TheVariants as finding
use Rattle.flashplan_design.specs.declared.findings.TaskFinding.{TaskFinding}
use Rattle.flashplan_design.specs.declared.findings.AlphaFinding.{AlphaFinding}
use Rattle.flashplan_design.specs.declared.numbers.Number.{Number}
use Rattle.flashplan_design.specs.declared.numbers.Number.TheVariants as number
use Rattle.flashplan_design.specs.declared.subjects.TaskName.{TaskName}

-- a number of times; 0 where it is none of these
abbrev pub time_number : Times → Number → ℕ
time_number times number.Common = times.common
time_number times (number.Period task) = (times_of times task).period
time_number times (number.CollectPeriod task) = (times_of times task).collect_period
time_number times (number.Work task) = (times_of times task).work
time_number times (number.Writes task) = (times_of times task).writes
time_number times number.Blocks = 0
time_number times number.Logical = 0
time_number times number.Alpha = 0
time_number times (number.Cap task) = 0

abbrev pub number_of_times : Option Times → Number → ℕ
number_of_times (Some times) which = time_number times which
number_of_times None which = 0

-- a number as a die's plan has it; 0 where it has none
abbrev pub number_of : DiePlan → Number → ℕ
number_of plan number.Blocks = plan.shape.blocks
number_of plan number.Logical = plan.logical
number_of plan number.Alpha = plan.alpha
number_of plan (number.Cap task) = slice_index plan.caps task
number_of plan number.Common = number_of_times plan.times number.Common
number_of plan (number.Period task) = number_of_times plan.times (number.Period task)
number_of plan (number.CollectPeriod task) = number_of_times plan.times (number.CollectPeriod task)
number_of plan (number.Work task) = number_of_times plan.times (number.Work task)
number_of plan (number.Writes task) = number_of_times plan.times (number.Writes task)

-- a change of a number that all dies share to one that was found, if one was
abbrev pub shared_change : PlanNumbers → Number → Option ℕ → List Change
shared_change plan which None = []
shared_change plan which (Some to) = record { of = None; which = which; from = number_of (die_of plan 0) which; to = to } ∷ []

-- a change of a number of a task
abbrev pub own_change : PlanNumbers → TaskName → Number → Option ℕ → List Change
own_change plan name which None = []
own_change plan name which (Some to) = record { of = Some name; which = which; from = number_of (die_of plan name.die) which; to = to } ∷ []

abbrev pub time_changes : PlanNumbers → TaskFinding → List Change
time_changes plan t =
    own_change plan t.name (number.Period t.name.task) t.periods.period
    ++ own_change plan t.name (number.CollectPeriod t.name.task) t.periods.collect_period

abbrev pub work_changes : PlanNumbers → TaskFinding → List Change
work_changes plan t =
    own_change plan t.name (number.Cap t.name.task) t.work.cap ++ own_change plan t.name (number.Work t.name.task) t.work.work
    ++ own_change plan t.name (number.Writes t.name.task) t.work.writes

-- an alpha with which each die would do is found by die: it is one change
abbrev pub alpha_change : PlanNumbers → AlphaFinding → List Change
alpha_change plan a = if a.die == 0 then shared_change plan number.Alpha (Some a.alpha) else []

-- the changes that a finding names
abbrev pub changes_of : PlanNumbers → Finding → List Change
changes_of plan (finding.Blocks found) = shared_change plan number.Blocks found
changes_of plan (finding.Logical found) = shared_change plan number.Logical found
changes_of plan (finding.Common found) = shared_change plan number.Common found
changes_of plan (finding.Alpha a) = alpha_change plan a
changes_of plan (finding.Task t) = time_changes plan t ++ work_changes plan t

abbrev pub all_changes : PlanNumbers → List Finding → List Change
all_changes plan findings = flat_map (changes_of plan) findings

-- what a change of such a number costs in addition to how great it is: those of collections, which a designer chooses,
-- come before those of the part and of what its tasks need
abbrev pub basic_price : Number → ℕ
basic_price number.Alpha = 0
basic_price number.Common = 0
basic_price (number.Cap task) = 0
basic_price (number.CollectPeriod task) = 0
basic_price number.Blocks = 10000000000000000
basic_price number.Logical = 10000000000000000
basic_price (number.Period task) = 10000000000000000
basic_price (number.Work task) = 10000000000000000
basic_price (number.Writes task) = 10000000000000000

-- how far two numbers are apart
abbrev pub distance : ℕ → ℕ → ℕ
distance a b = (a - b) + (b - a)

-- how dear a change is: by how many millionths the number changes, and what such a change costs at least
abbrev pub price : Change → ℕ
price c = basic_price c.which + distance c.from c.to * 1000000 / max c.from 1

-- these are all changes that the findings name, the cheapest first
pub record AreRanked (plan : PlanNumbers) (findings : List Finding) (changes : List Change) : Type 0 where
  pub same : IsPermutation (all_changes plan findings) changes
  pub ranked : IsNonDecreasingBy price changes

-- the key of a number
abbrev pub key_text : Number → List ℕ
key_text number.Blocks = codes "blocks"
key_text number.Logical = codes "logical"
key_text number.Alpha = codes "alpha"
key_text number.Common = codes "common"
key_text (number.Cap task) = codes "cap"
key_text (number.Period task) = codes "period"
key_text (number.CollectPeriod task) = codes "collect_period"
key_text (number.Work task) = codes "work"
key_text (number.Writes task) = codes "writes"

-- which numbers are of slots, so that their times follow them
abbrev pub unit_of : Option ℕ → Number → Option ℕ
unit_of us number.Common = us
unit_of us (number.Period task) = us
unit_of us (number.CollectPeriod task) = us
unit_of us number.Blocks = None
unit_of us number.Logical = None
unit_of us number.Alpha = None
unit_of us (number.Cap task) = None
unit_of us (number.Work task) = None
unit_of us (number.Writes task) = None

-- whose number is changed
abbrev pub of_text : Option TaskName → List ℕ
of_text None = codes "plan"
of_text (Some name) = name_text name

-- how a change is said, a line
abbrev pub step_text : Option ℕ → Change → List ℕ
step_text us c = key_text c.which ++ codes " from " ++ slots_text (unit_of us c.which) c.from ++ codes " to "
    ++ slots_text (unit_of us c.which) c.to ++ codes ".\n"

abbrev pub change_line : Option ℕ → Change → List ℕ
change_line us c = codes "change: " ++ of_text c.of ++ codes ": " ++ step_text us c

-- all of these changes
abbrev pub changes_text : Option ℕ → List Change → List ℕ
changes_text us changes = flat_map (change_line us) changes
