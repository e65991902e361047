-- What was found of a plan, and how it is said.
use Rattle.std.specs.Prelude.{◌≡◌, ℕ, List, ◌∷◌, [], ◌++◌, codes, decimal, flat_map, IsSomeAnd, Option, Some, None}
use Rattle.slot_types.specs.declared.limits.TheConstants.{MAX_BLOCKS, MAX_OPS, MAX_SLOT, MIN_BLOCKS}
use Rattle.plan_rules.specs.Times.{demand}
use Rattle.plan_texts.specs.Stores.{die_of}
use Rattle.plan_texts.specs.declared.numbers.PlanNumbers.{PlanNumbers}
use Rattle.flashplan_slot_times.specs.Times.{slots_text}
use Rattle.flashplan_design.specs.Numbers.{FindsGreatest, FindsLeast, with_number}
use Rattle.flashplan_design.specs.Plans.{AllDo, OneDoes}
use Rattle.flashplan_design.specs.declared.numbers.Number.TheVariants as number
use Rattle.flashplan_design.specs.declared.findings.AlphaFinding.{AlphaFinding}
use Rattle.flashplan_design.specs.declared.findings.Finding.{Finding}
use Rattle.flashplan_design.specs.declared.findings.Finding.TheVariants as finding
use Rattle.flashplan_design.specs.declared.findings.OwnNumber.{OwnNumber}
use Rattle.flashplan_design.specs.declared.findings.OwnNumber.TheVariants as own
use Rattle.flashplan_design.specs.declared.findings.OwnPeriods.{OwnPeriods}
use Rattle.flashplan_design.specs.declared.findings.OwnWork.{OwnWork}
use Rattle.flashplan_design.specs.declared.findings.Taken.{Taken}
use Rattle.flashplan_design.specs.declared.findings.TaskFinding.{TaskFinding}
use Rattle.flashplan_design.specs.declared.subjects.TaskName.{TaskName}

-- with this alpha each die would do, and `taken` is what is then asked of this one
pub record IsAlpha (plan : PlanNumbers) (a : AlphaFinding) : Type 0 where
  pub does : AllDo number.Alpha plan a.alpha
  pub demand : IsSomeAnd (die_of plan a.die).times (λ times. a.taken.demand ≡ demand (with_number number.Alpha (die_of plan a.die) a.alpha) times)
  pub common : IsSomeAnd (die_of plan a.die).times (λ times. a.taken.common ≡ times.common)

-- each number of a task is the extreme one with which its die would do, while the others do as they are
pub record IsOfTask (plan : PlanNumbers) (t : TaskFinding) : Type 0 where
  pub period : FindsLeast (OneDoes t.name.die (number.Period t.name.task) plan) 1 MAX_SLOT t.periods.period
  pub collect_period : FindsGreatest (OneDoes t.name.die (number.CollectPeriod t.name.task) plan) 1 MAX_SLOT t.periods.collect_period
  pub cap : FindsLeast (OneDoes t.name.die (number.Cap t.name.task) plan) 1 640 t.work.cap
  pub work : FindsGreatest (OneDoes t.name.die (number.Work t.name.task) plan) 1 MAX_OPS t.work.work
  pub writes : FindsGreatest (OneDoes t.name.die (number.Writes t.name.task) plan) 0 MAX_OPS t.work.writes

-- what was found holds of the plan
abbrev pub IsSo : PlanNumbers → Finding → Type 0
IsSo plan (finding.Blocks found) = FindsLeast (AllDo number.Blocks plan) MIN_BLOCKS MAX_BLOCKS found
IsSo plan (finding.Logical found) = FindsGreatest (AllDo number.Logical plan) 1 4294967295 found
IsSo plan (finding.Common found) = FindsLeast (AllDo number.Common plan) 1 MAX_SLOT found
IsSo plan (finding.Alpha a) = IsAlpha plan a
IsSo plan (finding.Task t) = IsOfTask plan t

-- In these texts each number of slots is followed by its time, where it is known how many us a slot takes.

-- a task, by its place in the text, its die and its number there
abbrev pub name_text : TaskName → List ℕ
name_text name = codes "[[task]] " ++ decimal name.nth ++ codes " (die " ++ decimal name.die ++ codes " task " ++ decimal name.task ++ codes ")"

-- what a number of a task could be, beside others
abbrev pub own_text : Option ℕ → OwnNumber → List ℕ
own_text us (own.Period (Some n)) = codes "least period " ++ slots_text us n
own_text us (own.Period None) = codes "no period"
own_text us (own.CollectPeriod (Some n)) = codes "greatest collect_period " ++ slots_text us n
own_text us (own.CollectPeriod None) = codes "no collect_period"
own_text us (own.Cap (Some n)) = codes "least cap " ++ decimal n
own_text us (own.Cap None) = codes "no cap"
own_text us (own.Work (Some n)) = codes "greatest work " ++ decimal n
own_text us (own.Work None) = codes "no work"
own_text us (own.Writes (Some n)) = codes "greatest writes " ++ decimal n
own_text us (own.Writes None) = codes "no writes"

abbrev pub periods_text : Option ℕ → OwnPeriods → List ℕ
periods_text us p = own_text us (own.Period p.period) ++ codes ", " ++ own_text us (own.CollectPeriod p.collect_period)

abbrev pub work_text : Option ℕ → OwnWork → List ℕ
work_text us w = own_text us (own.Cap w.cap) ++ codes ", " ++ own_text us (own.Work w.work) ++ codes ", " ++ own_text us (own.Writes w.writes)

-- and what all of them could be
abbrev pub numbers_text : Option ℕ → OwnPeriods → OwnWork → List ℕ
numbers_text us p w = periods_text us p ++ codes ", " ++ work_text us w

abbrev pub task_text : Option ℕ → TaskFinding → List ℕ
task_text us t = name_text t.name ++ codes ": one at a time, these would do: " ++ numbers_text us t.periods t.work ++ codes "."

-- an alpha, and what is then taken of a die
abbrev pub taken_text : Option ℕ → Taken → List ℕ
taken_text us taken = codes "of each " ++ slots_text us taken.common ++ codes " slots " ++ slots_text us taken.demand ++ codes " are taken"

abbrev pub alpha_text : Option ℕ → AlphaFinding → List ℕ
alpha_text us a = codes "die " ++ decimal a.die ++ codes ": with its other numbers as they are, alpha " ++ decimal a.alpha
    ++ codes " would do: " ++ taken_text us a.taken ++ codes "."

-- how it is said
abbrev pub finding_text : Option ℕ → Finding → List ℕ
finding_text us (finding.Blocks (Some n)) = codes "plan: with its other numbers as they are, the least blocks that would do is " ++ decimal n ++ codes "."
finding_text us (finding.Blocks None) = codes "plan: with its other numbers as they are, no blocks would do."
finding_text us (finding.Logical (Some n)) = codes "plan: with its other numbers as they are, the greatest logical that would do is " ++ decimal n ++ codes "."
finding_text us (finding.Logical None) = codes "plan: with its other numbers as they are, no logical would do."
finding_text us (finding.Common (Some n)) = codes "plan: with its other numbers as they are, the least common that would do is " ++ slots_text us n ++ codes "."
finding_text us (finding.Common None) = codes "plan: with its other numbers as they are, no common would do."
finding_text us (finding.Alpha a) = alpha_text us a
finding_text us (finding.Task t) = task_text us t

-- all of it, a line each
abbrev pub findings_text : Option ℕ → List Finding → List ℕ
findings_text us findings = flat_map (λ (f : Finding). finding_text us f ++ 10 ∷ []) findings
