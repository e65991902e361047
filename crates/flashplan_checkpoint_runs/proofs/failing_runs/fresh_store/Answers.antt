use Rattle.std.proofs.Common.{rules, ◌≡◌, ◌++◌, ◌∷◌, [], List, ap, sym, subst, ◌∙◌, arith, length, length-append, map}
use Rattle.std.proofs.lemmas.List.Elements.{All-rest}
use Rattle.std.specs.Prelude.{All}
use Rattle.std.specs.Vec.Iter.{into_iter_items}
use Rattle.slot_types.specs.declared.plans.DiePlan.{DiePlan}
use Rattle.plan_rules.specs.Bound.{MeetsBound}
use Rattle.die_log.specs.Model.Start.{fresh}
use Rattle.flash_die.specs.Fuse.{Fuse}
use Rattle.flash_die.specs.Memory.{Memory}
use Rattle.slot_core.specs.Core.{Core}
use Rattle.std.specs.Prelude.{Some}
use Rattle.flashplan_watched_runs.specs.Failing.{calls_of}
use Rattle.flashplan_checkpoint_runs.specs.Runs.{HaveCalls, running, starts_of}
use Rattle.flashplan_checkpoint_runs.proofs.CallsMore.{each_more}
use Rattle.flashplan_script_runs.specs.RunningDies.{HasEmptyLog, running_of}
use Rattle.flashplan_script_runs.proofs.TextRuns.{empty_more, starts_more}
use Rattle.flashplan_checkpoint_runs.proofs.failing_runs.fresh_store.Goals as goal

pub loop-plan-preserved : goal.loop-plan-preserved
loop-plan-preserved c =
    let left : List DiePlan = into_iter_items c.next.new.self in
    let here : into_iter_items c.loop-plan.plan-iterator ≡ c.in-Some.plan ∷ left = search rules in
    let pushed = c.in_ok-push_die.ensures.ok in
    record {
      can_next = tt;
      is_finite = tt;
      starts = ap (λ (dies : List (Core (Fuse Memory))). starts_of dies ++ map fresh left) pushed
          ∙ starts_more running_of c.loop-plan.dies.items c.in_ok-die.die (fresh c.in-Some.plan) (map fresh left) (map fresh c.args.plan)
          c.in_ok-die.ensures.ok
          (ap (λ (plans : List DiePlan). starts_of c.loop-plan.dies.items ++ map fresh plans) (sym here) ∙ c.loop-plan.invariant.starts);
      empty = subst (λ (dies : List (Core (Fuse Memory))). All HasEmptyLog (running dies)) (sym pushed)
          (empty_more running_of c.loop-plan.dies.items c.in_ok-die.die c.loop-plan.invariant.empty c.in_ok-die.ensures.log);
      count = omega (
        arith,
        ap length pushed,
        ap length here,
        c.loop-plan.invariant.count,
        length-append c.loop-plan.dies.items (c.in_ok-die.die ∷ []),
      );
      calls = subst (λ (dies : List (Core (Fuse Memory))). HaveCalls (Some c.args.fail) dies) (sym pushed)
          (each_more (λ (die : Core (Fuse Memory)). die.device.left) (calls_of (Some c.args.fail)) c.loop-plan.dies.items c.in_ok-die.die
          c.loop-plan.invariant.calls (search rules));
      bound = All-rest MeetsBound c.in-Some.plan left (into_iter_items c.loop-plan.plan-iterator) here c.loop-plan.invariant.bound;
    }
