-- A die on which nothing was done keeps its plan.
use Rattle.std.proofs.Common.{◌≡◌, ℕ, zero, suc, ◌+◌, List, [], ◌∷◌, get_or, replicate, refl, ap, sym, subst, arith}
use Rattle.slot_types.specs.declared.plans.DiePlan.{DiePlan}
use Rattle.demand_rules.specs.declared.terms.Terms.{Terms}
use Rattle.demand_rules.specs.Demand.{terms_of, PassesDemand}
use Rattle.demand_rules.specs.Supply.{PassesSupply}
use Rattle.die_log.specs.Model.Log.{now}
use Rattle.die_log.specs.Model.Start.{fresh}
use Rattle.die_log.specs.Model.Opening.{IsOpening}
use Rattle.die_log.specs.Results.DemandedLives.{AreFull}
use Rattle.slot_core.specs.Core.{Core}
use Rattle.planned_log.specs.Lives.{IsLife}
use Rattle.planned_log.specs.Laws.{IsKept}
use Rattle.planned_log.proofs.Kept.{begun}
use Rattle.planned_log.specs.Asks.{counting}
use Rattle.planned_die.specs.declared.memory.AskedJob.{AskedJob}
use Rattle.planned_die.specs.Remembered.{newest_first, CountAs}
use Rattle.planned_die.specs.Planned.{HasLived}

fresh_full : (plan : DiePlan) → AreFull (fresh plan)
fresh_full plan task lt = omega arith

-- no task asked for anything
none_asked : (n i : ℕ) → get_or {A = List AskedJob} (replicate n []) i [] ≡ []
none_asked zero i = refl
none_asked (suc n) zero = refl
none_asked (suc n) (suc i) = none_asked n i

pub new_lived : {N : Type 0} (core : Core N) (plan : DiePlan) (terms : Terms) (life n : ℕ) → core.start ≡ fresh plan → core.log ≡ []
    → IsOpening core.start → PassesDemand core.start.plan terms → PassesSupply core.start.plan terms → IsLife core.start.plan terms life
    → HasLived (record { core = core; terms = terms; life = life; entered = 0; first = 0; asked = replicate n [] }) []
new_lived core plan terms life n starts empty opens demand supply is_life = record {
  kept = subst (λ l. IsKept core.start terms [] life 0 l) (sym empty) (begun core.start terms life (record {
    opens = opens;
    demand = demand;
    supply = supply;
    is_life = is_life;
    full = subst AreFull (sym starts) (fresh_full plan);
  }));
  began = refl;
  counts = subst (λ l. CountAs core.start.plan terms (0 + now l) (replicate n []) (l ∷ [])) (sym empty)
      (λ task slot lt le. ap (λ jobs. counting (terms_of terms task).period slot (newest_first jobs)) (none_asked n task));
}
