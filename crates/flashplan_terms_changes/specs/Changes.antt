-- Changes with which a plan that is refused would do, and which of them is cheaper.
use Rattle.std.specs.Prelude.{◌≡◌, ◌≢◌, ◌==◌, ℕ, ◌+◌, ◌-◌, ◌*◌, ◌/◌, ◌<◌, ◌≤◌, ⊤, nat_le, nat_lt, min, max}
use Rattle.std.specs.Prelude.{List, [], ◌∷◌, ◌++◌, flat_map, codes, count_by, take}
use Rattle.std.specs.Prelude.{if◌then◌else◌, slice_index_or, Option, Some, None}
use Rattle.std.specs.List.{enumerate_from}
use Rattle.std.specs.List.Sorted.{IsNonDecreasingBy, IsPermutation}
use Rattle.slot_types.specs.declared.limits.TheConstants.{MAX_BLOCKS}
use Rattle.demand_rules.specs.Demand.{terms_of}
use Rattle.demand_rules.specs.declared.terms.TaskTerms.{TaskTerms}
use Rattle.terms_texts.specs.Stores.{IsUsable, die_of}
use Rattle.terms_texts.specs.declared.numbers.TaskNumbers.{TaskNumbers}
use Rattle.terms_texts.specs.declared.numbers.TermsNumbers.{TermsNumbers}
use Rattle.terms_texts.specs.declared.stores.DieTerms.{DieTerms}
use Rattle.flashplan_slot_times.specs.Times.{slots_text}
use Rattle.flashplan_design.specs.Changes.{distance, of_text}
use Rattle.flashplan_design.specs.Trials.{with_blocks}
use Rattle.flashplan_design.specs.declared.subjects.TaskName.{TaskName}
use Rattle.flashplan_terms_margins.specs.Changes.{with_cap, with_own}
use Rattle.flashplan_terms_changes.specs.Alphas.{cap_with, holding, longest, with_alpha}
use Rattle.flashplan_terms_changes.specs.declared.asked_numbers.Asked.{Asked}
use Rattle.flashplan_terms_changes.specs.declared.plan_numbers.PlanNumber.{PlanNumber}
use Rattle.flashplan_terms_changes.specs.declared.plan_numbers.PlanNumber.TheVariants as number
use Rattle.flashplan_terms_changes.specs.declared.changes.Change.{Change}

-- a number of a task's terms; 0 where it is none of these
abbrev pub terms_number : TaskTerms → PlanNumber → ℕ
terms_number t number.Alpha = 0
terms_number t number.Logical = 0
terms_number t number.Blocks = 0
terms_number t number.Cap = 0
terms_number t number.CollectPeriod = t.collect_period
terms_number t number.CollectDeadline = t.collect_deadline
terms_number t number.Period = t.period
terms_number t number.Deadline = t.deadline
terms_number t number.Held = t.held
terms_number t number.Work = t.work
terms_number t number.Writes = t.writes

-- a number as a die has it, and a task of it
abbrev pub number_of : DieTerms → ℕ → PlanNumber → ℕ
number_of made task number.Alpha = made.plan.alpha
number_of made task number.Logical = made.plan.logical
number_of made task number.Blocks = made.plan.shape.blocks
number_of made task number.Cap = slice_index_or made.plan.caps task 0
number_of made task which = terms_number (terms_of made.terms task) which

-- the number of a task's terms that asks for least, with an alpha
abbrev pub loosest_terms : ℕ → TaskTerms → PlanNumber → ℕ
loosest_terms alpha t number.Alpha = 0
loosest_terms alpha t number.Logical = 0
loosest_terms alpha t number.Blocks = 0
loosest_terms alpha t number.Cap = cap_with alpha t
loosest_terms alpha t number.CollectPeriod = longest alpha t
loosest_terms alpha t number.CollectDeadline = t.collect_period
loosest_terms alpha t number.Period = 4294967295
loosest_terms alpha t number.Deadline = t.held
loosest_terms alpha t number.Held = t.deadline
loosest_terms alpha t number.Work = max t.writes 1
loosest_terms alpha t number.Writes = 0

-- and of a die's numbers
abbrev pub loosest : DieTerms → ℕ → PlanNumber → ℕ
loosest made task number.Logical = 1
loosest made task number.Blocks = MAX_BLOCKS
loosest made task which = loosest_terms made.plan.alpha (terms_of made.terms task) which

-- a task's terms with another number; a collection is due by the next one
abbrev pub terms_with : PlanNumber → TaskTerms → ℕ → TaskTerms
terms_with number.Alpha t n = t
terms_with number.Logical t n = t
terms_with number.Blocks t n = t
terms_with number.Cap t n = t
terms_with number.CollectPeriod t n = record t { collect_period = n; collect_deadline = min t.collect_deadline n }
terms_with number.CollectDeadline t n = record t { collect_deadline = n }
terms_with number.Period t n = record t { period = n }
terms_with number.Deadline t n = record t { deadline = n }
terms_with number.Held t n = record t { held = n }
terms_with number.Work t n = record t { work = n }
terms_with number.Writes t n = record t { writes = n }

-- a die with another number; with another alpha it has the caps, collect periods and collect deadlines that go with it
abbrev pub with_number : PlanNumber → DieTerms → ℕ → ℕ → DieTerms
with_number number.Alpha made task n = with_alpha made n
with_number number.Logical made task n = holding made n
with_number number.Blocks made task n = record made { plan = with_blocks made.plan n }
with_number number.Cap made task n = record made { plan = with_cap made.plan task n }
with_number which made task n = with_own made task (terms_with which (terms_of made.terms task) n)

-- the dies whose number it is do with another one: all dies, or that of the task
abbrev pub OwnDo : TermsNumbers → Option TaskName → PlanNumber → ℕ → Type 0
OwnDo plan None which n = (die : ℕ) → die < plan.top.dies → IsUsable (with_number which (die_of plan die) 0 n)
OwnDo plan (Some name) which n = IsUsable (with_number which (die_of plan name.die) name.task n)

-- the others do as they are
abbrev pub OthersDo : TermsNumbers → Option TaskName → Type 0
OthersDo plan None = ⊤
OthersDo plan (Some name) = (die : ℕ) → die < plan.top.dies → die ≢ name.die → IsUsable (die_of plan die)

-- so with this number in the place of its own each die of the plan meets its bound and passes its tests
pub record Does (plan : TermsNumbers) (of : Option TaskName) (which : PlanNumber) (n : ℕ) : Type 0 where
  pub own : OwnDo plan of which n
  pub others : OthersDo plan of

-- the number after `steps` steps from one to another
abbrev pub step : (from to steps : ℕ) → ℕ
step from to steps = if nat_le from to then from + steps else from - steps

-- the next number on the way from one to another
abbrev pub nearer_to : (n from : ℕ) → ℕ
nearer_to n from = if nat_lt from n then n - 1 else n + 1

-- it does with another number, and with the next one on the way to the one that it has it doesn't
pub record IsNearest (P : ℕ → Type 0) (from n : ℕ) : Type 0 where
  pub does : P n
  pub other : n ≢ from
  pub nearer : ¬ P (nearer_to n from)

-- such a number; where there is none, it does as it is, or doesn't with the number that asks for least
abbrev pub FindsNearest : (P : ℕ → Type 0) (from to : ℕ) → Option ℕ → Type 0
FindsNearest P from to (Some n) = IsNearest P from n
FindsNearest P from to None = ¬ P from → ¬ P to

-- an alpha from 1 to some other number with which it does, and with none that is nearer to another one
pub record IsNearestAlpha (P : ℕ → Type 0) (pages from n : ℕ) : Type 0 where
  pub some : 1 ≤ n
  pub few : n ≤ pages
  pub does : P n
  pub nearest : (other : ℕ) → 1 ≤ other → other ≤ pages → distance other from < distance n from → ¬ P other

-- such an alpha; or it does with none
abbrev pub FindsAlpha : (P : ℕ → Type 0) (pages from : ℕ) → Option ℕ → Type 0
FindsAlpha P pages from (Some n) = IsNearestAlpha P pages from n
FindsAlpha P pages from None = (n : ℕ) → 1 ≤ n → n ≤ pages → ¬ P n

-- where a number stands: in the first die where all dies share it, and else in the task's
abbrev pub die_at : Option TaskName → ℕ
die_at None = 0
die_at (Some name) = name.die

abbrev pub task_at : Option TaskName → ℕ
task_at None = 0
task_at (Some name) = name.task

-- a number as the plan has it, and the one that asks for least
abbrev pub from_of : TermsNumbers → Asked → ℕ
from_of plan a = number_of (die_of plan (die_at a.of)) (task_at a.of) a.which

abbrev pub to_of : TermsNumbers → Asked → ℕ
to_of plan a = loosest (die_of plan (die_at a.of)) (task_at a.of) a.which

-- the nearest number with which the plan does
abbrev pub Finds : TermsNumbers → Asked → Option ℕ → Type 0
Finds plan a found = FindsNearest (Does plan a.of a.which) (from_of plan a) (to_of plan a) found

-- the change to it
abbrev pub change_of : Asked → ℕ → Option ℕ → List Change
change_of a from None = []
change_of a from (Some to) = record { of = a.of; which = a.which; from = from; to = to } ∷ []

-- those of numbers, one after the other
abbrev pub AreFound : TermsNumbers → List Asked → List Change → Type 0
AreFound plan [] changes = changes ≡ []
AreFound plan (a ∷ more) changes = (found : Option ℕ) × (rest : List Change) × Finds plan a found
    × (changes ≡ change_of a (from_of plan a) found ++ rest) × AreFound plan more rest

-- the name of a task at a place of the text, the first of which is 0: its number is that of the earlier tasks of its die
abbrev pub name_at : List TaskNumbers → (place die : ℕ) → TaskName
name_at tasks place die =
    record { nth = place + 1; die = die; task = min (count_by (λ (task : TaskNumbers). task.die == die) (take place tasks)) 4294967295 }

-- a number of all dies, and of a task
abbrev pub shared_asked : PlanNumber → Asked
shared_asked which = record { of = None; which = which }

abbrev pub own_asked : TaskName → PlanNumber → Asked
own_asked name which = record { of = Some name; which = which }

-- the numbers of a task that are sought
abbrev pub asked_of_task : TaskName → List Asked
asked_of_task name = own_asked name number.Cap ∷ own_asked name number.CollectPeriod ∷ own_asked name number.CollectDeadline
    ∷ own_asked name number.Period ∷ own_asked name number.Deadline ∷ own_asked name number.Held
    ∷ own_asked name number.Work ∷ own_asked name number.Writes ∷ []

abbrev pub asked_of_tasks : List TaskNumbers → List (ℕ × TaskNumbers) → List Asked
asked_of_tasks tasks placed = flat_map (λ (p : ℕ × TaskNumbers). asked_of_task (name_at tasks p.0 p.1.die)) placed

-- and all that are sought but the alpha
abbrev pub asked_of : TermsNumbers → List Asked
asked_of plan = shared_asked number.Logical ∷ shared_asked number.Blocks ∷ asked_of_tasks plan.tasks (enumerate_from 0 plan.tasks)

-- all changes of a plan: that to the nearest alpha, and those of other numbers
pub record AreChanges (plan : TermsNumbers) (changes : List Change) : Type 0 where
  pub alpha : Option ℕ
  pub nearest : FindsAlpha (Does plan None number.Alpha) plan.top.pages plan.top.alpha alpha
  pub others : List Change
  pub found : AreFound plan (asked_of plan) others
  pub is : changes ≡ change_of (shared_asked number.Alpha) plan.top.alpha alpha ++ others

-- what a change of such a number costs in addition to how great it is: those of one number of collections, which a
-- designer chooses, come first, then that of the alpha with all that goes with it, and then those of the part and of
-- what its tasks need
abbrev pub basic_price : PlanNumber → ℕ
basic_price number.Alpha = 5000000000000000
basic_price number.Logical = 10000000000000000
basic_price number.Blocks = 10000000000000000
basic_price number.Cap = 0
basic_price number.CollectPeriod = 0
basic_price number.CollectDeadline = 0
basic_price number.Period = 10000000000000000
basic_price number.Deadline = 10000000000000000
basic_price number.Held = 10000000000000000
basic_price number.Work = 10000000000000000
basic_price number.Writes = 10000000000000000

-- how dear a change is: by how many millionths the number changes, and what such a change costs at least
abbrev pub price : Change → ℕ
price c = basic_price c.which + distance c.from c.to * 1000000 / max c.from 1

-- these are all changes of a plan, the cheapest first
pub record AreRanked (plan : TermsNumbers) (changes : List Change) : Type 0 where
  pub all : List Change
  pub found : AreChanges plan all
  pub same : IsPermutation all changes
  pub ranked : IsNonDecreasingBy price changes

-- the key of a number
abbrev pub key_text : PlanNumber → List ℕ
key_text number.Alpha = codes "alpha"
key_text number.Logical = codes "logical"
key_text number.Blocks = codes "blocks"
key_text number.Cap = codes "cap"
key_text number.CollectPeriod = codes "collect_period"
key_text number.CollectDeadline = codes "collect_deadline"
key_text number.Period = codes "period"
key_text number.Deadline = codes "deadline"
key_text number.Held = codes "held"
key_text number.Work = codes "work"
key_text number.Writes = codes "writes"

-- which numbers are of slots, so that their times follow them
abbrev pub unit_of : Option ℕ → PlanNumber → Option ℕ
unit_of us number.Alpha = None
unit_of us number.Logical = None
unit_of us number.Blocks = None
unit_of us number.Cap = None
unit_of us number.CollectPeriod = us
unit_of us number.CollectDeadline = us
unit_of us number.Period = us
unit_of us number.Deadline = us
unit_of us number.Held = us
unit_of us number.Work = None
unit_of us number.Writes = None

-- what changes besides, and the end of the line
abbrev pub with_text : PlanNumber → List ℕ
with_text number.Alpha = codes ", with the caps, collect_periods and collect_deadlines that go with it.\n"
with_text number.CollectPeriod = codes ", with a collect_deadline of at most that.\n"
with_text _ = codes ".\n"

-- how a change is said, a line
abbrev pub step_text : Option ℕ → Change → List ℕ
step_text us c = key_text c.which ++ codes " from " ++ slots_text (unit_of us c.which) c.from ++ codes " to "
    ++ slots_text (unit_of us c.which) c.to

abbrev pub change_text : Option ℕ → Change → List ℕ
change_text us c = step_text us c ++ with_text c.which

abbrev pub change_line : Option ℕ → Change → List ℕ
change_line us c = (codes "change: " ++ of_text c.of ++ codes ": ") ++ change_text us c

-- all of these changes
abbrev pub changes_text : Option ℕ → List Change → List ℕ
changes_text us changes = flat_map (change_line us) changes

-- what is said of the changes of a plan: the first ten
pub record SaysCheapest (us : Option ℕ) (plan : TermsNumbers) (said : List ℕ) : Type 0 where
  pub changes : List Change
  pub ranked : AreRanked plan changes
  pub is : said ≡ changes_text us (take 10 changes)
