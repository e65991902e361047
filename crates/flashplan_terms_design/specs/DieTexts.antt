-- What is said of a die with terms: its numbers, and what its tests answer, in sentences of a line each.
use Rattle.std.specs.Prelude.{ℕ, ◌+◌, ◌-◌, ◌*◌, ◌/◌, List, [], ◌∷◌, ◌++◌, flat_map, codes, decimal, Option, slice_index_or}
use Rattle.std.specs.List.{enumerate_from}
use Rattle.plan_rules.specs.Times.{collection_work}
use Rattle.slot_types.specs.declared.plans.DiePlan.{DiePlan}
use Rattle.demand_rules.specs.declared.demands.DemandLoad.{DemandLoad}
use Rattle.demand_rules.specs.declared.terms.TaskTerms.{TaskTerms}
use Rattle.terms_texts.specs.declared.stores.DieTerms.{DieTerms}
use Rattle.flashplan_slot_times.specs.Times.{slots_text}
use Rattle.flashplan_terms_changes.specs.Alphas.{least_cap as least_cap_with}

-- In these texts a number of slots is followed by its time, where it is known how many us a slot takes.

-- the end of a sentence, and of its line
abbrev pub full_stop : List ℕ
full_stop = codes "." ++ 10 ∷ []

-- what a sentence begins with
abbrev pub of_die : ℕ → List ℕ
of_die die = codes "die " ++ decimal die ++ codes ": "

abbrev pub of_task : ℕ → ℕ → List ℕ
of_task die task = codes "die " ++ decimal die ++ codes " task " ++ decimal task ++ codes ": "

-- a die's numbers
abbrev pub plan_line : DiePlan → List ℕ
plan_line plan = codes "blocks " ++ decimal plan.shape.blocks ++ codes ", pages " ++ decimal plan.shape.pages ++ codes ", erase_slots "
    ++ decimal plan.shape.erase_slots ++ codes ", logical " ++ decimal plan.logical ++ codes ", alpha " ++ decimal plan.alpha ++ full_stop

abbrev pub die_line : ℕ → DiePlan → List ℕ
die_line die plan = of_die die ++ plan_line plan

-- a task's numbers: what its jobs ask for, and its collections
abbrev pub coming_text : Option ℕ → ℕ → TaskTerms → List ℕ
coming_text us cap t = codes "cap " ++ decimal cap ++ codes ", period " ++ slots_text us t.period

abbrev pub due_text : Option ℕ → TaskTerms → List ℕ
due_text us t = codes ", deadline " ++ slots_text us t.deadline ++ codes ", held " ++ slots_text us t.held

abbrev pub work_text : TaskTerms → List ℕ
work_text t = codes ", work " ++ decimal t.work

abbrev pub collections_text : Option ℕ → TaskTerms → List ℕ
collections_text us t = codes ", writes " ++ decimal t.writes ++ codes ", collect_period " ++ slots_text us t.collect_period
    ++ codes ", collect_deadline " ++ slots_text us t.collect_deadline

abbrev pub jobs_line : Option ℕ → ℕ → TaskTerms → List ℕ
jobs_line us cap t = coming_text us cap t ++ due_text us t ++ work_text t

abbrev pub collections_line : Option ℕ → TaskTerms → List ℕ
collections_line us t = collections_text us t ++ full_stop

abbrev pub task_line : Option ℕ → (die task cap : ℕ) → TaskTerms → List ℕ
task_line us die task cap t = of_task die task ++ jobs_line us cap t ++ collections_line us t

-- those of all tasks
abbrev pub task_lines : Option ℕ → ℕ → List ℕ → List TaskTerms → List ℕ
task_lines us die caps tasks = flat_map (λ (p : ℕ × TaskTerms). task_line us die p.0 (slice_index_or caps p.0 0) p.1) (enumerate_from 0 tasks)

-- the numbers of a die and of its tasks
abbrev pub numbers_text : Option ℕ → ℕ → DieTerms → List ℕ
numbers_text us die made = die_line die made.plan ++ task_lines us die made.plan.caps made.terms.tasks

-- what all tasks ask for in the long run, of a million slots
abbrev pub load_text : ℕ → List ℕ
load_text load = codes "in the long run " ++ decimal load ++ codes " of each 1000000 slots are asked for" ++ full_stop

abbrev pub load_line : ℕ → DemandLoad → List ℕ
load_line die found = of_die die ++ load_text found.load

-- and of the tightest interval
abbrev pub interval_text : Option ℕ → ℕ → List ℕ
interval_text us slots = codes "the tightest interval has " ++ slots_text us slots ++ codes " slots"

abbrev pub asked_text : Option ℕ → ℕ → List ℕ
asked_text us demand = codes ", of which " ++ slots_text us demand ++ codes " may be asked for"

abbrev pub spare_text : Option ℕ → ℕ → List ℕ
spare_text us slack = codes ": " ++ slots_text us slack ++ codes " to spare" ++ full_stop

abbrev pub tightest_text : Option ℕ → (slots demand slack : ℕ) → List ℕ
tightest_text us slots demand slack = (interval_text us slots ++ asked_text us demand) ++ spare_text us slack

abbrev pub tightest_line : Option ℕ → ℕ → DemandLoad → List ℕ
tightest_line us die found = of_die die ++ tightest_text us found.tightest (found.tightest - found.slack) found.slack

abbrev pub collection_line : Option ℕ → ℕ → DiePlan → List ℕ
collection_line us die plan =
    of_die die ++ (codes "a collection takes at most " ++ slots_text us (collection_work plan) ++ codes " slots" ++ full_stop)

-- what a task's cap has to cover: what it may write in a period and in as many slots as a job may be held, and two
-- collections; rounded up
abbrev pub least_cap : DiePlan → TaskTerms → ℕ
least_cap plan t = least_cap_with plan.alpha t

-- what its collections give, compared with what its jobs write
abbrev pub gain_text : (gained written spare : ℕ) → List ℕ
gain_text gained written spare = codes "alpha * period is " ++ decimal gained ++ codes ", and writes * collect_period is " ++ decimal written
    ++ codes ": " ++ decimal spare ++ codes " to spare" ++ full_stop

abbrev pub gain_line : DiePlan → TaskTerms → List ℕ
gain_line plan t =
    gain_text (plan.alpha * t.period) (t.writes * t.collect_period) (plan.alpha * t.period - t.writes * t.collect_period)

-- its cap, compared with what that has to cover
abbrev pub stock_text : (cap least spare : ℕ) → List ℕ
stock_text cap least spare = codes "cap is " ++ decimal cap ++ codes ", and has to be at least " ++ decimal least ++ codes ": " ++ decimal spare
    ++ codes " to spare" ++ full_stop

abbrev pub stock_line : DiePlan → ℕ → TaskTerms → List ℕ
stock_line plan cap t = stock_text cap (least_cap plan t) (cap - least_cap plan t)

abbrev pub supply_line : (die task : ℕ) → DiePlan → ℕ → TaskTerms → List ℕ
supply_line die task plan cap t = of_task die task ++ gain_line plan t ++ of_task die task ++ stock_line plan cap t

abbrev pub supply_lines : ℕ → DiePlan → List TaskTerms → List ℕ
supply_lines die plan tasks =
    flat_map (λ (p : ℕ × TaskTerms). supply_line die p.0 plan (slice_index_or plan.caps p.0 0) p.1) (enumerate_from 0 tasks)

-- what is said of a die that passes its tests
abbrev pub passing_text : Option ℕ → ℕ → DieTerms → DemandLoad → List ℕ
passing_text us die made found =
    numbers_text us die made ++ collection_line us die made.plan ++ load_line die found ++ tightest_line us die found
    ++ supply_lines die made.plan made.terms.tasks
