-- What is said of the plan that was found, and why none was. A number of slots is followed by its time, where it is known how
-- many us a slot takes.
use Rattle.std.specs.Prelude.{ℕ, ◌-◌, List, [], ◌∷◌, ◌++◌, codes, decimal, Option, None, Some}
use Rattle.demand_rules.specs.declared.demands.DemandLoad.{DemandLoad}
use Rattle.flashplan_slot_times.specs.Times.{slots_text}
use Rattle.flashplan_fit.specs.declared.faults.Reason.{Reason}
use Rattle.flashplan_fit.specs.declared.faults.Reason.TheVariants as reason
use Rattle.flashplan_fit.specs.declared.lives.Life.{Life}
use Rattle.flashplan_fit.specs.declared.lives.Life.TheVariants as life
use Rattle.flashplan_fit.specs.declared.searches.Share.{Share}

-- how many slots are taken of how many
abbrev pub over_text : Option ℕ → (demand common : ℕ) → List ℕ
over_text us demand common = slots_text us demand ++ codes " of each " ++ slots_text us common ++ codes " slots"

-- how many an interval lacks
abbrev pub lack_text : Option ℕ → (slots excess : ℕ) → List ℕ
lack_text us slots excess = codes "an interval of " ++ slots_text us slots ++ codes " slots lacks " ++ slots_text us excess

-- why no plan was found
abbrev pub reason_text : Reason → List ℕ
reason_text (reason.Erase slots) = codes "an erase takes " ++ decimal slots ++ codes " slots, and may take 64"
reason_text (reason.Slot slot_us least) = codes "`slot_us` is " ++ decimal slot_us ++ codes ", and has to be at least " ++ decimal least
    ++ codes ": a slot holds a read, a program, and a 64th of an erase"
reason_text (reason.Period slot_us) = codes "a period or a deadline is shorter than the shortest slot, " ++ decimal slot_us ++ codes " us"
reason_text reason.Bound = codes "no alpha meets the bound"
reason_text (reason.Demand demand common slot_us) = codes "the tasks need too much: with slots of " ++ decimal slot_us ++ codes " us "
    ++ over_text (Some slot_us) demand common
reason_text (reason.Load load slot_us) = codes "the tasks need too much: with slots of " ++ decimal slot_us ++ codes " us "
    ++ decimal load ++ codes " of each 1000000 slots"
reason_text (reason.Overfull slots excess slot_us) = codes "the tasks need too much at once: with slots of "
    ++ (decimal slot_us ++ (codes " us " ++ lack_text (Some slot_us) slots excess))
reason_text (reason.Writes slot_us) = codes "a task writes too much: with slots of " ++ decimal slot_us
    ++ codes " us a collection in each slot gives back less"

-- the end of a line
abbrev pub line_end : List ℕ
line_end = 10 ∷ []

-- what is to spare
abbrev pub spare_text : Option ℕ → (spare : ℕ) → List ℕ
spare_text us spare = codes ": " ++ slots_text us spare ++ codes " to spare" ++ line_end

-- how much all tasks of a plan with times take
abbrev pub common_text : Option ℕ → (common : ℕ) → List ℕ
common_text us common = codes "of each " ++ slots_text us common ++ codes " slots"

abbrev pub taken_text : Option ℕ → (demand : ℕ) → List ℕ
taken_text us demand = codes " all tasks take at most " ++ slots_text us demand

abbrev pub demand_text : Option ℕ → Share → List ℕ
demand_text us share = common_text us share.common ++ taken_text us share.demand

abbrev pub share_text : Option ℕ → Share → List ℕ
share_text us share = demand_text us share ++ spare_text us (share.common - share.demand)

-- that its periods end in no life, where they don't
abbrev pub no_end_text : Option ℕ → (life : ℕ) → List ℕ
no_end_text us life = codes "# its periods end in no life, which has " ++ slots_text us life ++ codes " slots"

abbrev pub end_text : Option ℕ → Option ℕ → List ℕ
end_text us None = line_end
end_text us (Some end) = codes ": the least multiple of each collect_period is " ++ slots_text us end ++ line_end

abbrev pub life_text : Option ℕ → Life → List ℕ
life_text us life.Ends = []
life_text us (life.EndsNowhere longest end) = no_end_text us longest ++ end_text us end

-- what is asked of the slots of a plan with terms
abbrev pub long_run_text : ℕ → List ℕ
long_run_text load = codes "in the long run " ++ decimal load ++ codes " of each 1000000 slots are asked for" ++ line_end

abbrev pub interval_text : Option ℕ → (tightest : ℕ) → List ℕ
interval_text us tightest = codes "# the tightest interval has " ++ slots_text us tightest ++ codes " slots"

abbrev pub asked_text : Option ℕ → (demand : ℕ) → List ℕ
asked_text us demand = codes ", of which " ++ slots_text us demand ++ codes " may be asked for"

abbrev pub tightest_text : Option ℕ → DemandLoad → List ℕ
tightest_text us found = interval_text us found.tightest ++ asked_text us (found.tightest - found.slack)

abbrev pub tight_text : Option ℕ → DemandLoad → List ℕ
tight_text us found = tightest_text us found ++ spare_text us found.slack

abbrev pub load_text : Option ℕ → DemandLoad → List ℕ
load_text us found = long_run_text found.load ++ tight_text us found
