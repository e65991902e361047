use Rattle.std.proofs.Common.{◌≡◌, ◌+◌, ◌∙◌, ℕ, List, ap, subst, All, sum_by, arith}
use Rattle.demand_rules.specs.Demand.{demand_in, task_demand_in}
use Rattle.demand_rules.specs.declared.terms.TaskTerms.{TaskTerms}
use Rattle.demand_trials.specs.Repeats.{AreDueBy, Divide}
use Rattle.demand_trials.proofs.Repeating.{enough_repeats}
use Rattle.demand_trials.proofs.repeats.repeats_from.Goals as goal

pub returns-then-after-before-clause-enough : goal.returns-then-after-before-clause-enough
returns-then-after-before-clause-enough c =
    let plan = c.args.plan.now in
    let terms = c.args.terms.now in
    let far : ℕ = c.last_deadline-far.result in
    let common : ℕ = c.in_ok-common.common in
    let before : c.total_demand-before.result ≡ demand_in plan terms far =
    c.total_demand-before.ensures.demand ∙ ap (λ (ts : List TaskTerms). sum_by (task_demand_in plan far) ts) c.as_slice-tasks.ensures in
    let after : c.total_demand-after.result ≡ demand_in plan terms (far + common) =
    c.total_demand-after.ensures.demand ∙ ap (λ (ts : List TaskTerms). sum_by (task_demand_in plan (far + common)) ts) c.as_slice-tasks.ensures in
    enough_repeats plan terms far common c.requires.has.each (same_tasks (AreDueBy far) c.last_deadline-far.ensures.due)
    (same_tasks (Divide common) c.in_ok-common.ensures.divide) c.in_ok-common.ensures.some
    (omega (arith, before, after, c.from.ensures, c.if-after-before.true))
  where
    same_tasks : (P : TaskTerms → Type 0) → All P c.as_slice-tasks.result.now → All P c.args.terms.now.tasks
    same_tasks P all = subst (All P) c.as_slice-tasks.ensures all
