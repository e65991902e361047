-- The plans that dies keep.
use Rattle.std.specs.Prelude.{◌≡◌, Some, None}
use Rattle.slot_types.specs.declared.plans.DiePlan.{DiePlan}
use Rattle.slot_types.specs.declared.plans.Times.{Times}
use Rattle.demand_rules.specs.Earlier.{as_terms}
use Rattle.terms_texts.specs.declared.stores.DieTerms.{DieTerms}

-- a plan with times is kept as one with the terms that these mean
pub record IsKeptPlan (plan : DiePlan) (kept : DieTerms) : Type 0 where
  pub times : Times
  pub has : plan.times ≡ Some times
  pub kept_is : kept ≡ record { plan = record plan { times = None }; terms = as_terms times }
