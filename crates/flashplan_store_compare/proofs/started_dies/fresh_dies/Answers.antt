use Rattle.std.proofs.Common.{rules, ◌≡◌, ◌+◌, ◌<◌, ◌++◌, ◌∷◌, List, ap, false, sym, subst, ◌∙◌, arith, drop, get_or, length, map}
use Rattle.std.specs.Global.{Box}
use Rattle.std.specs.Prelude.{All}
use Rattle.slot_types.specs.declared.plans.DiePlan.{DiePlan}
use Rattle.die_log.specs.Model.Start.{fresh}
use Rattle.flashplan_script_runs.specs.RunningDies.{HasEmptyLog, RunningDie, starts_of}
use Rattle.flashplan_script_runs.proofs.TextRuns.{empty_more, starts_more}
use Rattle.flashplan_store_compare.specs.Runs.{begun}
use Rattle.flash_die.specs.Memory.{Memory}
use Rattle.slot_core.specs.Core.{Core}
use Rattle.flashplan_store_compare.proofs.PlansLeft.{first_left}
use Rattle.flashplan_store_compare.proofs.UnstoppedDies.{one_more_runs}
use Rattle.flashplan_store_compare.proofs.started_dies.fresh_dies.Goals as goal

pub loop-plan-preserved : goal.loop-plan-preserved
loop-plan-preserved c =
    let plans = c.args.plans.now in
    let i = c.loop-plan.plan-index in
    let item = c.plan-item.result in
    let dies = c.loop-plan.dies.items in
    let all : c.as_slice-plan-items.result.now ≡ plans = c.as_slice-plan-items.ensures in
    let below : i < length plans = omega (arith, ap length all) in
    let at : item ≡ get_or plans i item = cc in
    let left : List DiePlan = drop (i + 1) plans in
    let here : drop i plans ≡ item ∷ left = first_left plans i item below at in
    let same : c.in_ok-own.own ≡ item = search rules in
    let pushed = c.in_ok-push_started.ensures.ok in
    record {
      starts = ap (λ (l : List (Box (Core Memory))). starts_of (map begun l) ++ map fresh left) pushed
          ∙ starts_more begun dies c.in_ok-die.die (fresh item) (map fresh left) (map fresh plans)
          (c.in_ok-die.ensures.start ∙ ap fresh same)
          (ap (λ (l : List DiePlan). starts_of (map begun dies) ++ map fresh l) (sym here) ∙ c.loop-plan.invariant.starts);
      empty = subst (λ (l : List (Box (Core Memory))). All HasEmptyLog (map begun l)) (sym pushed)
          (empty_more begun dies c.in_ok-die.die c.loop-plan.invariant.empty c.in_ok-die.ensures.log);
      run = subst (λ (l : List (Box (Core Memory))). All (λ (die : RunningDie). die.stopped ≡ false) (map begun l)) (sym pushed)
          (one_more_runs begun dies c.in_ok-die.die c.loop-plan.invariant.run c.in_ok-die.ensures.runs);
    }
