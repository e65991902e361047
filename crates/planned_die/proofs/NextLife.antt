-- The end of a life of a die that keeps its plan itself.
use Rattle.std.proofs.Common.{◌≡◌, ℕ, ◌≤◌, subst, arith}
use Rattle.demand_rules.specs.declared.terms.Terms.{Terms}
use Rattle.die_log.specs.Model.Log.{now}
use Rattle.die_log.specs.Model.Lives.{Lives}
use Rattle.die_log.specs.Model.Opening.{IsQuiet}
use Rattle.slot_core.specs.Core.{Core}
use Rattle.slot_core.specs.Renewals.{RefusesRenewal}
use Rattle.slot_core.specs.declared.renewals.RenewalRefusal.{RenewalRefusal}
use Rattle.slot_core.specs.declared.renewals.RenewalRefusal.TheVariants.{NotQuiet}
use Rattle.slot_core.proofs.Refusing.{next_is_left}
use Rattle.planned_log.specs.Laws.{IsKept}
use Rattle.planned_log.proofs.Kept.{ends_quiet}

module _ {N : Type 0} (core : Core N) (terms : Terms) (earlier : Lives) (life entered : ℕ)
    (h : IsKept core.start terms earlier life entered core.log) (over : life ≤ now core.log) where
  -- the life has ended
  pub ended : now core.log ≡ life
  ended = omega (arith, over, h.kept.within)

  -- nothing is left
  pub not_left : (refusal : RenewalRefusal) (job : ℕ) → RefusesRenewal core refusal → refusal ≡ NotQuiet job → ⊥
  not_left refusal job refused is =
      let quiet : IsQuiet core.start core.log = ends_quiet core.start terms earlier life entered core.log h ended in
      let why : RefusesRenewal core (NotQuiet job) = subst (λ (r : RenewalRefusal). RefusesRenewal core r) is refused in
      next_is_left core.start core.log job why.1 quiet
