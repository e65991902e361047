-- What is counted of a single event.
use Rattle.std.proofs.Common.{◌≡◌, ℕ, ◌==◌, ◌&&◌, not, true, false, cond, List, [], ◌∷◌}
use Rattle.std.proofs.Common.{refl, ap, arith}
use Rattle.std.proofs.lemmas.Bool.{eq-eqb, ne_eqb}
use Rattle.std.proofs.lemmas.List.Sums.{sum_by-cons}
use Rattle.slot_types.specs.declared.events.Op.{Op}
use Rattle.slot_types.specs.declared.events.Event.TheVariants as events
use Rattle.plan_rules.specs.Keeping.{TaskArrival, arrivals}
use Rattle.demand_keeping.specs.declared.windows.Count.{Count}
use Rattle.demand_keeping.specs.BySlot.{CountsNothing, CountsOne}
use Rattle.demand_keeping.specs.Planned.{job_of}
use Rattle.demand_keeping.specs.Windows.{slot_of, amount_of, is_in, amount_in}

module _ (c : Count) (task : ℕ) where
  pub counts_job : (now other release due : ℕ) (ops : List Op) → other ≡ task
      → CountsOne c task (arrivals now (events.Submit other release due ops ∷ [])) (slot_of c (job_of now other release due ops))
      (amount_of c (job_of now other release due ops))
  counts_job now other release due ops same =
      let a : TaskArrival = job_of now other release due ops in
      let is : (other == task) ≡ true = eq-eqb other task same in
      record {
        inside = λ start end. omega (
          arith,
          sum_by-cons (amount_in c task start end) a [],
          ap (λ b. cond ((not false && b) && is_in start end (slot_of c a)) (amount_of c a) 0) is,
        );
      }

  pub counts_other : (now other release due : ℕ) (ops : List Op) → (other ≡ task → ⊥)
      → CountsNothing c task (arrivals now (events.Submit other release due ops ∷ []))
  counts_other now other release due ops differ =
      let a : TaskArrival = job_of now other release due ops in
      let is : (other == task) ≡ false = ne_eqb other task differ in
      record {
        inside = λ start end. omega (
          arith,
          sum_by-cons (amount_in c task start end) a [],
          ap (λ b. cond ((not false && b) && is_in start end (slot_of c a)) (amount_of c a) 0) is,
        );
      }

  pub counts_collection : (now other release due : ℕ) → CountsNothing c task (arrivals now (events.Collect other release due ∷ []))
  counts_collection now other release due = record { inside = λ start end. refl }

  pub counts_slot : (now : ℕ) → CountsNothing c task (arrivals now (events.Slot ∷ []))
  counts_slot now = record { inside = λ start end. refl }
