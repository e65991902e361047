-- Plans with terms that may be used meet the bound without them.
use Rattle.std.proofs.Common.{◌≡◌, List, All, sym, subst}
use Rattle.std.specs.Prelude.{slice_index_or}
use Rattle.std.proofs.lemmas.List.Elements.{All-map}
use Rattle.slot_types.specs.declared.plans.DiePlan.{DiePlan}
use Rattle.plan_rules.specs.Bound.{HasLimits, MeetsBound}
use Rattle.terms_texts.specs.Plans.{plan_in, plans_in}
use Rattle.terms_texts.specs.Stores.{IsUsable}
use Rattle.terms_texts.specs.declared.stores.DieTerms.{DieTerms}

-- the bound says nothing of times
bound-of : (die : DieTerms) → MeetsBound die.plan → MeetsBound (plan_in die)
bound-of die bound =
    let limits : HasLimits (plan_in die) = record {
      some_tasks = bound.limits.some_tasks;
      few_tasks = bound.limits.few_tasks;
      some_logical = bound.limits.some_logical;
      some_alpha = bound.limits.some_alpha;
      alpha_fits = bound.limits.alpha_fits;
      some_cap = bound.limits.some_cap;
    } in
    record { shape = bound.shape; limits = limits; closed = bound.closed; live = bound.live }

pub bound-in : (dies : List DieTerms) (store : List DiePlan) → store ≡ plans_in dies → All IsUsable dies → All MeetsBound store
bound-in dies store plans usable = subst (All MeetsBound) (sym plans)
    (All-map MeetsBound plan_in dies (λ k d within. bound-of (slice_index_or dies k d) (usable k d within).bound))
