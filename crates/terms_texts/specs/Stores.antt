-- The plans of a store with terms that the numbers of a text make, or why they make none.
use Rattle.std.specs.Prelude.{◌≡◌, ◌==◌, ℕ, ◌<◌, ◌≤◌, nat_le, List, map, filter, Option, Some, None, Result, Ok, Err}
use Rattle.std.specs.List.{range_with_len, position}
use Rattle.plan_rules.specs.Bound.{IsShape, MeetsBound}
use Rattle.slot_types.specs.declared.plans.Shape.{Shape}
use Rattle.demand_rules.specs.declared.terms.TaskTerms.{TaskTerms}
use Rattle.demand_rules.specs.Demand.{PassesDemand}
use Rattle.demand_rules.specs.Supply.{PassesSupply}
use Rattle.demand_rules.specs.Faults.{IsTermsFault}
use Rattle.terms_texts.specs.declared.faults.DieFault.{DieFault}
use Rattle.terms_texts.specs.declared.faults.DieFault.TheVariants as die_fault
use Rattle.terms_texts.specs.declared.faults.TermsRefusal.{TermsRefusal}
use Rattle.terms_texts.specs.declared.faults.TermsRefusal.TheVariants.{Outside, Text, BadShape, NoDie, Die}
use Rattle.terms_texts.specs.declared.numbers.TermsNumbers.{TermsNumbers}
use Rattle.terms_texts.specs.declared.numbers.TaskNumbers.{TaskNumbers}
use Rattle.terms_texts.specs.declared.numbers.TopNumbers.{TopNumbers}
use Rattle.terms_texts.specs.declared.stores.DieTerms.{DieTerms}

-- the shape of all dies
abbrev pub shape_of : TopNumbers → Shape
shape_of top = record { blocks = top.blocks; pages = top.pages; erase_slots = top.erase_slots }

-- the tasks of a die, in the order of the text
abbrev pub tasks_on : List TaskNumbers → ℕ → List TaskNumbers
tasks_on tasks die = filter (λ (task : TaskNumbers). task.die == die) tasks

-- their caps, and their terms
abbrev pub caps_of : List TaskNumbers → ℕ → List ℕ
caps_of tasks die = map (λ (task : TaskNumbers). task.cap) (tasks_on tasks die)

abbrev pub terms_of_tasks : List TaskNumbers → ℕ → List TaskTerms
terms_of_tasks tasks die = map (λ (task : TaskNumbers). task.terms) (tasks_on tasks die)

-- the plan of a die, and its terms
abbrev pub die_of : TermsNumbers → ℕ → DieTerms
die_of plan die = record {
  plan = record {
    shape = shape_of plan.top;
    logical = plan.top.logical;
    alpha = plan.top.alpha;
    caps = caps_of plan.tasks die;
    times = None;
  };
  terms = record { tasks = terms_of_tasks plan.tasks die };
}

-- those of the dies, all alike except for the caps and the terms
abbrev pub dies_of : TermsNumbers → List DieTerms
dies_of plan = map (die_of plan) (range_with_len 0 plan.top.dies)

-- the number of dies and their shape are within their limits
pub record IsShaped (top : TopNumbers) : Type 0 where
  pub some_dies : 1 ≤ top.dies
  pub few_dies : top.dies ≤ 8
  pub shape : IsShape (shape_of top)

-- the first task that names a die that isn't there
abbrev pub stray_in : ℕ → List TaskNumbers → Option ℕ
stray_in dies tasks = position (λ (task : TaskNumbers). nat_le dies task.die) tasks

-- a die meets its bound; each of its tasks has terms within their limits, and passes both tests
pub record IsUsable (die : DieTerms) : Type 0 where
  pub bound : MeetsBound die.plan
  pub demand : PassesDemand die.plan die.terms
  pub supply : PassesSupply die.plan die.terms

-- why a die may not be used
abbrev pub IsDieFault : DieTerms → DieFault → Type 0
IsDieFault die die_fault.Bound = ¬ MeetsBound die.plan
IsDieFault die (die_fault.Terms fault) = MeetsBound die.plan × IsTermsFault die.plan die.terms fault

-- the plans of a store that may be used
pub record IsStore (plan : TermsNumbers) (store : List DieTerms) : Type 0 where
  pub dies : store ≡ dies_of plan
  pub shaped : IsShaped plan.top
  pub named : stray_in plan.top.dies plan.tasks ≡ None
  pub usable : (die : ℕ) → die < plan.top.dies → IsUsable (die_of plan die)

-- the first die that may not be used, and why
pub record IsUnusable (plan : TermsNumbers) (die : ℕ) (fault : DieFault) : Type 0 where
  pub there : die < plan.top.dies
  pub unusable : ¬ IsUsable (die_of plan die)
  pub cause : IsDieFault (die_of plan die) fault
  pub before : (earlier : ℕ) → earlier < die → IsUsable (die_of plan earlier)

abbrev pub IsFirstUnusable : TermsNumbers → TermsRefusal → Type 0
IsFirstUnusable plan (Die die fault) = IsUnusable plan die fault
IsFirstUnusable plan _ = ⊥

-- why the numbers of a text make no store: the shape first, then the tasks' dies, and then what is asked of each die
abbrev pub RefusesStore : TermsNumbers → TermsRefusal → Type 0
RefusesStore plan BadShape = ¬ IsShaped plan.top
RefusesStore plan (NoDie task) = IsShaped plan.top × (stray_in plan.top.dies plan.tasks ≡ Some task)
RefusesStore plan (Die die fault) = IsShaped plan.top × (stray_in plan.top.dies plan.tasks ≡ None) × IsUnusable plan die fault
RefusesStore plan (Outside refusal) = ⊥
RefusesStore plan (Text cause place) = ⊥

-- why a text makes no store: its own fault, or what its numbers lack
abbrev pub RefusesText : Result TermsNumbers TermsRefusal → TermsRefusal → Type 0
RefusesText (Err fault) refusal = refusal ≡ fault
RefusesText (Ok plan) refusal = RefusesStore plan refusal
