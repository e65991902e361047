-- No cause stands why a die doesn't go on from a checkpoint of which each task has enough.
use Rattle.std.proofs.Common.{◌≡◌, ◌≢◌, ℕ, get_or, refl, ap, arith}
use Rattle.slot_types.specs.declared.plans.DiePlan.{DiePlan}
use Rattle.slot_types.specs.declared.plans.Shape.{Shape}
use Rattle.demand_rules.specs.declared.terms.TaskTerms.{TaskTerms}
use Rattle.demand_rules.specs.declared.terms.Terms.{Terms}
use Rattle.demand_rules.specs.declared.limits.TermsNumber.{TermsNumber}
use Rattle.demand_rules.specs.declared.limits.TermsNumber.TheVariants as number
use Rattle.demand_rules.specs.declared.limits.LimitFault.{LimitFault}
use Rattle.demand_rules.specs.declared.limits.LimitFault.TheVariants as limit
use Rattle.demand_rules.specs.declared.demands.DemandFault.{DemandFault}
use Rattle.demand_rules.specs.declared.demands.DemandFault.TheVariants as demand
use Rattle.demand_rules.specs.declared.supplies.Lack.{Lack}
use Rattle.demand_rules.specs.declared.supplies.Lack.TheVariants as lack
use Rattle.demand_rules.specs.declared.plans.TermsFault.{TermsFault}
use Rattle.demand_rules.specs.declared.plans.TermsFault.TheVariants as terms_fault
use Rattle.demand_rules.specs.Demand.{terms_of, no_terms, IsTaskTerms, HasTerms, PassesDemand}
use Rattle.demand_rules.specs.Supply.{IsSustained, PassesSupply}
use Rattle.demand_rules.specs.Faults.{IsWithin, IsLimitFault, IsDemandFault, IsLack, IsTermsFault}
use Rattle.demand_rules.proofs.Moments.{task_sustained}
use Rattle.die_checkpoint.specs.declared.checkpoint.Checkpoint.{Checkpoint}
use Rattle.die_checkpoint.specs.Fits.{Fits}
use Rattle.slot_core.specs.Resumptions.{RefusesResume, no_memory}
use Rattle.slot_core.specs.declared.resumptions.ResumeRefusal.{ResumeRefusal}
use Rattle.ongoing_log.specs.Ongoing.{AreLongEnough}
use Rattle.planned_die.specs.declared.resumptions.PlanResumeRefusal.TheVariants as plans
use Rattle.planned_die.specs.NewPlans.{IsSomeLife}
use Rattle.planned_die.specs.Resuming.{HaveEnough}
use Rattle.ongoing_die.specs.declared.refusals.OngoingResumeRefusal.{OngoingResumeRefusal}
use Rattle.ongoing_die.specs.declared.refusals.OngoingResumeRefusal.TheVariants as unresumed
use Rattle.ongoing_die.specs.Resuming.{out_of_memory, RefusesOngoingResume}

-- each number of such terms is within its limits
number_within : (t : TaskTerms) (n : TermsNumber) → IsTaskTerms t → IsWithin t n
number_within t number.Period h = h.some_period
number_within t number.Deadline h = h.some_deadline
number_within t number.Held h = (h.few_deadline, h.few_held)
number_within t number.Work h = (h.some_work, h.few_work)
number_within t number.Writes h = h.few_writes
number_within t number.CollectPeriod h = (h.some_collect_period, h.few_collect_period)
number_within t number.CollectDeadline h = (h.some_collect_deadline, h.few_collect_deadline)

-- so no limit is broken
within_limits : (plan : DiePlan) (terms : Terms) (fault : LimitFault) → HasTerms plan terms → IsLimitFault plan terms fault → ⊥
within_limits plan terms (limit.Tasks have) has h = h.1 has.one_each
within_limits plan terms (limit.Number task n) has h = h.out (number_within (terms_of terms task) n (has.each task no_terms h.there))

demand_passed : (plan : DiePlan) (terms : Terms) (fault : DemandFault) → PassesDemand plan terms → IsDemandFault plan terms fault → ⊥
demand_passed plan terms (demand.Limits fault) p h = within_limits plan terms fault p.has h
demand_passed plan terms (demand.Load found) p h = omega (arith, h.1, h.2, p.lasts)
demand_passed plan terms (demand.Overfull slots excess) p h = omega (arith, h.2.over, h.2.some, p.fits slots h.2.within)

sustained : (plan : DiePlan) (cap : ℕ) (t : TaskTerms) (what : Lack) → IsSustained plan cap t → IsLack plan cap t what → ⊥
sustained plan cap t (lack.CollectPeriod most) s h = omega (arith, h.above, (h.would_do t.collect_period).0 s.regained)
sustained plan cap t (lack.Cap least) s h = omega (arith, h.below, (h.would_do cap).0 s.stocked)

terms_passed : (plan : DiePlan) (terms : Terms) (fault : TermsFault) → PassesDemand plan terms → PassesSupply plan terms
    → IsTermsFault plan terms fault → ⊥
terms_passed plan terms (terms_fault.Demand fault) p q h = demand_passed plan terms fault p h
terms_passed plan terms (terms_fault.Supply fault) p q h =
    sustained plan (get_or plan.caps fault.task 0) (terms_of terms fault.task) fault.lack (task_sustained plan terms fault.task q h.there) h.short

-- what is said of the die below
abbrev pub OneAnswer : Type 0
OneAnswer = (plan : DiePlan) (c : Checkpoint) (shape : Shape) (refusal : ResumeRefusal) → RefusesResume plan c shape refusal
    → refusal ≢ no_memory → ¬ ((shape ≡ plan.shape) × Fits plan c)

module _ (one : OneAnswer) (plan : DiePlan) (terms : Terms) (longest life : ℕ) (c : Checkpoint) (fits : Fits plan c) (p : PassesDemand plan terms)
    (q : PassesSupply plan terms) (some : IsSomeLife plan terms longest life) (long : AreLongEnough terms life)
    (enough : HaveEnough plan terms c.balances) where
  pub unrefused : (why : OngoingResumeRefusal) → why ≢ out_of_memory → RefusesOngoingResume plan terms longest c plan.shape why → ⊥
  unrefused (unresumed.Plan (plans.Die why)) other h =
      one plan c plan.shape why h (λ e. other (ap (λ (r : ResumeRefusal). unresumed.Plan (plans.Die r)) e)) (refl, fits)
  unrefused (unresumed.Plan (plans.Terms fault)) other h = terms_passed plan terms fault p q h.1
  unrefused (unresumed.Plan plans.NoLife) other h = h.1.2 life some
  unrefused (unresumed.Plan (plans.NotStocked s)) other h =
      let short = h.1.3 in omega (arith, enough s.task short.known, short.have_is, short.need_is, short.short)
  unrefused (unresumed.ShortLife task) other h =
      let longest_is = h.4.1 in
      let late = h.4.2 in
      omega (arith, longest_is.longer life some, late.late, long.jobs task late.known)
