-- How many logical pages a die holds doesn't matter to its tests.
use Rattle.std.proofs.Common.{ℕ, List, [], ◌∷◌}
use Rattle.std.specs.List.{AllZip}
use Rattle.slot_types.specs.declared.plans.DiePlan.{DiePlan}
use Rattle.plan_rules.specs.Bound.{MeetsBound}
use Rattle.demand_rules.specs.Demand.{PassesDemand}
use Rattle.demand_rules.specs.Supply.{IsSustained, PassesSupply}
use Rattle.demand_rules.specs.declared.terms.TaskTerms.{TaskTerms}
use Rattle.demand_rules.specs.declared.terms.Terms.{Terms}
use Rattle.terms_texts.specs.Stores.{IsUsable}
use Rattle.terms_texts.specs.declared.stores.DieTerms.{DieTerms}
use Rattle.flashplan_design.specs.Trials.{with_logical}
use Rattle.flashplan_terms_changes.specs.Alphas.{holding}

any-demand : (plan : DiePlan) (terms : Terms) (n m : ℕ) → PassesDemand (with_logical plan n) terms → PassesDemand (with_logical plan m) terms
any-demand plan terms n m p = record {
  has = record { one_each = p.has.one_each; each = p.has.each };
  lasts = p.lasts;
  fits = p.fits;
}

each-sustained : (plan : DiePlan) (n m : ℕ) (caps : List ℕ) (tasks : List TaskTerms)
    → AllZip (IsSustained (with_logical plan n)) caps tasks → AllZip (IsSustained (with_logical plan m)) caps tasks
each-sustained plan n m [] [] all = all
each-sustained plan n m [] (t ∷ ts) all = all
each-sustained plan n m (c ∷ cs) [] all = all
each-sustained plan n m (c ∷ cs) (t ∷ ts) all =
    (record { regained = all.0.regained; stocked = all.0.stocked }, each-sustained plan n m cs ts all.1)

any-supply : (plan : DiePlan) (terms : Terms) (n m : ℕ) → PassesSupply (with_logical plan n) terms → PassesSupply (with_logical plan m) terms
any-supply plan terms n m p = record {
  has = record { one_each = p.has.one_each; each = p.has.each };
  sustained = each-sustained plan n m plan.caps terms.tasks p.sustained;
}

-- a die that passes its tests with some number passes them with any
pub any-logical : (made : DieTerms) (n m : ℕ) → PassesDemand (with_logical made.plan n) made.terms × PassesSupply (with_logical made.plan n) made.terms
    → PassesDemand (with_logical made.plan m) made.terms × PassesSupply (with_logical made.plan m) made.terms
any-logical made n m p = (any-demand made.plan made.terms n m p.0, any-supply made.plan made.terms n m p.1)

-- it does where it meets its bound and passes its tests with some number
pub does-with : (made : DieTerms) (n m : ℕ) → MeetsBound (with_logical made.plan m)
    → PassesDemand (with_logical made.plan n) made.terms × PassesSupply (with_logical made.plan n) made.terms → IsUsable (holding made m)
does-with made n m bound p =
    let q = any-logical made n m p in
    record { bound = bound; demand = q.0; supply = q.1 }

-- it does with none where it doesn't pass them with some number
pub does-with-none : (made : DieTerms) (n : ℕ)
    → ¬ (PassesDemand (with_logical made.plan n) made.terms × PassesSupply (with_logical made.plan n) made.terms)
    → (m : ℕ) → ¬ IsUsable (holding made m)
does-with-none made n fails m does = fails (any-logical made m n (does.demand, does.supply))
