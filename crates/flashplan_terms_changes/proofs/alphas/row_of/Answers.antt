use Rattle.std.proofs.Common.{◌≡◌, ◌↔◌, IsTrue, ℕ, ap, refl, rules, subst}
use Rattle.plan_rules.specs.Bound.{MeetsBound}
use Rattle.slot_types.specs.declared.plans.DiePlan.{DiePlan}
use Rattle.demand_rules.specs.Demand.{PassesDemand, load}
use Rattle.demand_rules.specs.Supply.{PassesSupply}
use Rattle.terms_texts.specs.Stores.{IsUsable}
use Rattle.flashplan_design.specs.Trials.{with_logical}
use Rattle.flashplan_terms_changes.specs.Alphas.{holding}
use Rattle.flashplan_terms_changes.proofs.Holding.{does-with, does-with-none}
use Rattle.flashplan_terms_changes.proofs.alphas.row_of.Goals as goal

pub returns-in_default : goal.returns-in_default
returns-in_default c =
    let made = c.args.made in
    let plan : DiePlan = c.greatest_logical.new.plan in
    let most = c.in_ok-logical.logical in
    let fails : ¬ (PassesDemand (with_logical plan most) made.terms × PassesSupply (with_logical plan most) made.terms) = search rules in
    subst (λ (p : DiePlan). (logical : ℕ) → ¬ IsUsable (holding (record made { plan = p }) logical)) c.greatest_logical.ensures.plan
    (does-with-none (record made { plan = plan }) most fails)

pub returns : goal.returns
returns c =
    let made = c.args.made in
    let plan : DiePlan = c.greatest_logical.new.plan in
    let most = c.in_ok-logical.logical in
    let passes : PassesDemand (with_logical plan most) made.terms × PassesSupply (with_logical plan most) made.terms =
    c.in-Some.ensures.passes.0 refl in
    let own = subst (λ (p : DiePlan). PassesDemand (with_logical p most) made.terms × PassesSupply (with_logical p most) made.terms)
    c.greatest_logical.ensures.plan passes in
    let meets : IsTrue c.is_ok-does.result ↔ MeetsBound plan = search rules in
    record {
      is = ap (λ (p : DiePlan). record made { plan = p }) c.greatest_logical.ensures.plan;
      holds = does-with made most most c.in_ok-logical.ensures.found.meets own;
      greatest = λ more above does. c.in_ok-logical.ensures.found.greatest more above does.bound;
      load = subst (λ (p : DiePlan). c.in-Some.load ≡ load p made.terms) c.greatest_logical.ensures.plan
          c.in-Some.ensures.load;
      does = subst (λ (p : DiePlan). IsTrue c.is_ok-does.result ↔ IsUsable (record made { plan = p })) c.greatest_logical.ensures.plan
          (λ yes. does-with (record made { plan = plan }) most plan.logical (meets.0 yes) passes, λ does. meets.1 does.bound);
    }
