-- The plans of dies without their terms.
use Rattle.std.specs.Prelude.{List, None, map}
use Rattle.slot_types.specs.declared.plans.DiePlan.{DiePlan}
use Rattle.terms_texts.specs.declared.stores.DieTerms.{DieTerms}

-- the plan of a die without its terms; it has no times
abbrev pub plan_in : DieTerms → DiePlan
plan_in die = record die.plan { times = None }

-- those of several dies
abbrev pub plans_in : List DieTerms → List DiePlan
plans_in store = map plan_in store
