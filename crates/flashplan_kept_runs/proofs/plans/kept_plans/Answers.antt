use Rattle.std.proofs.Common.{◌≡◌, ◌+◌, ◌<◌, List, ap, arith, get_or, length, subst, sym, take}
use Rattle.std.specs.List.{AllZip}
use Rattle.terms_texts.specs.declared.stores.DieTerms.{DieTerms}
use Rattle.flashplan_kept_runs.specs.KeptPlans.{IsKeptPlan}
use Rattle.flashplan_kept_runs.proofs.FreshDies.{zip_next}
use Rattle.flashplan_kept_runs.proofs.plans.kept_plans.Goals as goal

pub loop-plan-preserved : goal.loop-plan-preserved
loop-plan-preserved c =
    let plans = c.args.plans.now in
    let i = c.loop-plan.plan-index in
    let item = c.plan-item.result in
    let all : c.as_slice-plan-items.result.now ≡ plans = c.as_slice-plan-items.ensures in
    let below : i < length plans = omega (arith, ap length all) in
    let at : item ≡ get_or plans i item = cc in
    subst (λ (l : List DieTerms). AllZip IsKeptPlan (take (i + 1) plans) l) (sym c.in_ok-push.ensures.ok)
    (zip_next IsKeptPlan plans c.loop-plan.store.items i item c.in_ok-kept.kept below at c.loop-plan.invariant c.in_ok-kept.ensures)
