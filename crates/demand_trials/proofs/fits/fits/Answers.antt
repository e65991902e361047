use Rattle.std.proofs.Common.{◌≡◌, ℕ, ◌-◌, List, sum_by, ap, ◌∙◌, inl, inr, arith}
use Rattle.std.proofs.lemmas.Bool.{cases_lt}
use Rattle.demand_rules.proofs.Growing.{more_demand}
use Rattle.demand_rules.specs.Demand.{demand_in, task_demand_in}
use Rattle.demand_rules.specs.declared.terms.TaskTerms.{TaskTerms}
use Rattle.demand_trials.proofs.fits.fits.Goals as goal

pub loop-end-preserved : goal.loop-end-preserved
loop-end-preserved c =
    let plan = c.args.plan.now in
    let last : ℕ = c.loop-end.end - 1 in
    let asked : c.total_demand-demand.result ≡ demand_in plan c.args.terms.now last =
    c.total_demand-demand.ensures.demand ∙ ap (λ (ts : List TaskTerms). sum_by (task_demand_in plan last) ts) c.as_slice-tasks.ensures in
    record {
      within = omega (arith, c.if-demand-from.false, c.from.ensures, c.loop-end.invariant.within);
      room = λ slots from within. elim (cases_lt slots c.loop-end.end) [
        | inl less ↦ omega (arith, from, asked, more_demand plan c.args.terms.now slots last (omega (arith, less)))
        | inr beyond ↦ c.loop-end.invariant.room slots beyond within
      ];
    }
