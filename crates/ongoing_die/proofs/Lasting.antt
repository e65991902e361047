-- The lives of a die are long enough for a job of each task.
use Rattle.std.proofs.Common.{◌≡◌, ℕ, ◌<◌, ◌≤◌, length, subst}
use Rattle.demand_rules.specs.declared.terms.Terms.{Terms}
use Rattle.demand_rules.specs.Demand.{terms_of}
use Rattle.ongoing_log.specs.Ongoing.{AreLongEnough}
use Rattle.planned_die.specs.Planned.{Planned}

-- where each deadline was compared with a life
pub long_enough : {N : Type 0} (die : Planned N) (terms : Terms) (life : ℕ) → terms ≡ die.terms → life ≡ die.life → 0 < die.life
    → ((task : ℕ) → task < length terms.tasks → (terms_of terms task).deadline ≤ life) → AreLongEnough die.terms die.life
long_enough die terms life terms_is life_is some jobs = record {
  some = some;
  jobs = subst (λ (t : Terms). (task : ℕ) → task < length t.tasks → (terms_of t task).deadline ≤ die.life) terms_is
      (subst (λ n. (task : ℕ) → task < length terms.tasks → (terms_of terms task).deadline ≤ n) life_is jobs);
}
