-- Why a plan with terms is refused, in sentences. Intervals and collect periods are followed by their times, where it is known
-- how many us a slot takes.
use Rattle.std.specs.Prelude.{ℕ, ◌+◌, ◌-◌, List, ◌++◌, codes, decimal, Option, Some, None}
use Rattle.slot_types.specs.declared.refusals.Cause.{Cause}
use Rattle.slot_types.specs.declared.refusals.Cause.TheVariants as cause
use Rattle.demand_rules.specs.declared.demands.DemandFault.{DemandFault}
use Rattle.demand_rules.specs.declared.demands.DemandFault.TheVariants as demand
use Rattle.demand_rules.specs.declared.limits.LimitFault.{LimitFault}
use Rattle.demand_rules.specs.declared.limits.LimitFault.TheVariants as limit
use Rattle.demand_rules.specs.declared.limits.TermsNumber.{TermsNumber}
use Rattle.demand_rules.specs.declared.limits.TermsNumber.TheVariants as number
use Rattle.demand_rules.specs.declared.plans.TermsFault.{TermsFault}
use Rattle.demand_rules.specs.declared.plans.TermsFault.TheVariants as terms_fault
use Rattle.demand_rules.specs.declared.supplies.Lack.{Lack}
use Rattle.demand_rules.specs.declared.supplies.Lack.TheVariants as lack
use Rattle.demand_rules.specs.declared.supplies.SupplyFault.{SupplyFault}
use Rattle.terms_texts.specs.Keys.{name_of}
use Rattle.terms_texts.specs.declared.faults.Place.{Place}
use Rattle.terms_texts.specs.declared.faults.Place.TheVariants.{Whole, In, At}
use Rattle.terms_texts.specs.declared.faults.TableName.{TableName}
use Rattle.terms_texts.specs.declared.faults.TableName.TheVariants.{Top, Task}
use Rattle.flashplan_slot_times.specs.Times.{slots_text}
use Rattle.flashplan_terms_design.specs.DieTexts.{full_stop, of_die, of_task}

-- a table, as a sentence begins with it; `[[task]]` are counted from 1
abbrev pub table_text : TableName → List ℕ
table_text Top = codes "plan: "
table_text (Task task) = codes "[[task]] " ++ decimal (task + 1) ++ codes ": "

-- where the fault of a text lies
abbrev pub place_text : Place → List ℕ
place_text Whole = codes "plan: the text"
place_text (In table) = table_text table ++ codes "a key"
place_text (At table key) = table_text table ++ name_of key

-- what is wrong there
abbrev pub wrong_text : Cause → List ℕ
wrong_text cause.TooLong = codes " has more than 1048576 bytes"
wrong_text cause.NotToml = codes " isn't TOML, or not UTF-8"
wrong_text cause.ExtraKey = codes " is none that a plan with terms has there: its keys are terms, dies, blocks, pages, erase_slots, logical, alpha and task; in each [[task]] die, cap, period, deadline, held, work, writes, collect_period and collect_deadline"
wrong_text cause.MissingKey = codes " is missing"
wrong_text cause.WrongKind = codes " has a value of another kind: task is an array of tables, the others are whole numbers from 0 to 4294967295"
wrong_text cause.BadVersion = codes " has to be 1"
wrong_text _ = codes " can't be read"

abbrev pub text_fault : Cause → Place → List ℕ
text_fault cause place = place_text place ++ wrong_text cause ++ full_stop

-- the limits of the dies' number and shape
abbrev pub shape_text : List ℕ
shape_text = codes "plan: dies has to be from 1 to 8, blocks from 2 to 1024, pages from 2 to 256, erase_slots from 1 to 64" ++ full_stop

-- a task that names a die that isn't there
abbrev pub stray_text : ℕ → List ℕ
stray_text task = codes "[[task]] " ++ decimal (task + 1) ++ codes ": it names a die that isn't there" ++ full_stop

-- the greatest number of logical pages that would do, and the least number of blocks
abbrev pub logical_text : Option ℕ → List ℕ
logical_text None = codes "with no other logical it would"
logical_text (Some n) = codes "with other logical it would, the greatest being " ++ decimal n

abbrev pub blocks_text : Option ℕ → List ℕ
blocks_text None = codes "; with no other blocks it would"
blocks_text (Some n) = codes "; with other blocks it would, the least being " ++ decimal n

abbrev pub limits_text : List ℕ
limits_text = codes "it has to have 1 to 16 tasks, an alpha of 1 to pages, caps and logical of at least 1, and to meet its bound; "

abbrev pub bound_text : ℕ → (logical blocks : Option ℕ) → List ℕ
bound_text die logical blocks =
    of_die die ++ limits_text ++ logical_text logical ++ blocks_text blocks ++ full_stop

-- the limits of a number of a task's terms
abbrev pub range_text : TermsNumber → List ℕ
range_text number.Period = codes "period has to be from 1 to 4294967295"
range_text number.Deadline = codes "deadline has to be at least 1"
range_text number.Held = codes "held has to be from deadline to 1048576"
range_text number.Work = codes "work has to be from 1 to 1048576"
range_text number.Writes = codes "writes has to be at most work"
range_text number.CollectPeriod = codes "collect_period has to be from 1 to 1048576"
range_text number.CollectDeadline = codes "collect_deadline has to be from 1 to collect_period"

abbrev pub limit_text : ℕ → LimitFault → List ℕ
limit_text die (limit.Tasks have) = of_die die ++ (decimal have ++ codes " tasks have terms, and it has another number of tasks" ++ full_stop)
limit_text die (limit.Number task number) = of_task die task ++ range_text number ++ full_stop

-- a load above 1, and an interval that is overfull
abbrev pub overload_text : (load missing : ℕ) → List ℕ
overload_text load missing = codes "in the long run " ++ decimal load ++ codes " of each 1000000 slots are asked for: " ++ decimal missing
    ++ codes " missing" ++ full_stop

abbrev pub overfull_text : Option ℕ → (slots excess : ℕ) → List ℕ
overfull_text us slots excess = codes "an interval of " ++ slots_text us slots ++ codes " slots may be asked for " ++ slots_text us (slots + excess)
    ++ codes ": " ++ slots_text us excess ++ codes " missing; no shorter one is overfull" ++ full_stop

-- why a die doesn't pass the demand test
abbrev pub demand_text : Option ℕ → ℕ → DemandFault → List ℕ
demand_text us die (demand.Limits fault) = limit_text die fault
demand_text us die (demand.Load found) = of_die die ++ overload_text found (found - 1000000)
demand_text us die (demand.Overfull slots excess) = of_die die ++ overfull_text us slots excess

-- what a task lacks, and what would do
abbrev pub lack_text : Option ℕ → Lack → List ℕ
lack_text us (lack.CollectPeriod most) =
    codes "its collections give it less than its jobs write; the greatest collect_period that would do is " ++ slots_text us most
lack_text us (lack.Cap least) = codes "its cap is too small; the least that would do is " ++ decimal least

-- why it doesn't pass the supply test
abbrev pub supply_text : Option ℕ → ℕ → SupplyFault → List ℕ
supply_text us die fault = of_task die fault.task ++ lack_text us fault.lack ++ full_stop

abbrev pub terms_text : Option ℕ → ℕ → TermsFault → List ℕ
terms_text us die (terms_fault.Demand fault) = demand_text us die fault
terms_text us die (terms_fault.Supply fault) = supply_text us die fault
