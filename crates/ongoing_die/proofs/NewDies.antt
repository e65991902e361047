-- A die on which nothing was done.
use Rattle.std.proofs.Common.{◌≡◌, [], List, length, replicate, Option, None, ap, sym, subst, ◌∙◌, arith}
use Rattle.slot_types.specs.declared.plans.DiePlan.{DiePlan}
use Rattle.demand_rules.specs.Demand.{PassesDemand}
use Rattle.demand_rules.specs.Supply.{PassesSupply}
use Rattle.die_log.specs.Model.Start.{Start, fresh}
use Rattle.die_log.specs.Model.Opening.{IsOpening}
use Rattle.die_log.specs.Results.DemandedLives.{AreFull}
use Rattle.planned_log.specs.Lives.{IsLife}
use Rattle.planned_log.specs.Laws.{StartsFull}
use Rattle.ongoing_log.specs.Ongoing.{WaitingAsk, IsOngoing, new_ongoing}
use Rattle.planned_die.specs.Planned.{Planned, HasLived}
use Rattle.ongoing_die.specs.Standing.{StandsAs}
use Rattle.ongoing_die.proofs.OverAllLives.{stands_in}

fresh_full : (plan : DiePlan) → AreFull (fresh plan)
fresh_full plan task lt = omega arith

module _ {N : Type 0} (plan : DiePlan) (die : Planned N) (h : HasLived die []) (starts : die.core.start ≡ fresh plan) (whole : die.entered ≡ 0)
    (empty : die.core.log ≡ []) where
  pub starts_full : StartsFull (fresh plan) die.terms die.life
  starts_full = record {
    opens = subst IsOpening starts h.kept.opens;
    demand = subst (λ (s : Start). PassesDemand s.plan die.terms) starts h.kept.demand;
    supply = subst (λ (s : Start). PassesSupply s.plan die.terms) starts h.kept.supply;
    is_life = subst (λ (s : Start). IsLife s.plan die.terms die.life) starts h.kept.is_life;
    full = fresh_full plan;
  }

  as_many : length die.terms.tasks ≡ length plan.caps
  as_many = starts_full.demand.has.one_each

  pub waits_as : (ws : List (Option WaitingAsk)) → ws ≡ replicate (length die.terms.tasks) None → ws ≡ replicate (length plan.caps) None
  waits_as ws none = none ∙ ap (λ n. replicate n None) as_many

  pub new_stands : (ws : List (Option WaitingAsk)) → ws ≡ replicate (length die.terms.tasks) None
      → IsOngoing (fresh plan) die.terms die.life (new_ongoing plan)
      → StandsAs {N = N} (fresh plan) (new_ongoing plan) (record { die = die; waiting = ws })
  new_stands ws none k = stands_in {N = N} (fresh plan) (new_ongoing plan) (record { die = die; waiting = ws }) [] h starts
      (λ i. record { earlier = []; log = sym empty i; waiting = sym (waits_as ws none) i }) k whole
