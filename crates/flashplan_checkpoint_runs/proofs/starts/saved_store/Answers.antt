use Rattle.std.proofs.Common.{rules, Err, ◌≡◌, ◌++◌, ◌∷◌, [], List, ap, false, sym, subst, ◌∙◌, arith, length, length-append}
use Rattle.std.proofs.lemmas.List.Elements.{All-push}
use Rattle.std.specs.Prelude.{All}
use Rattle.std.specs.Vec.Iter.{into_iter_items}
use Rattle.slot_types.specs.declared.plans.DiePlan.{DiePlan}
use Rattle.checkpoint_texts.specs.declared.saved.SavedDie.{SavedDie}
use Rattle.flash_die.specs.Memory.{Memory}
use Rattle.slot_core.specs.Core.{Core}
use Rattle.flashplan_checkpoint_runs.specs.Runs.{running, starts_of}
use Rattle.flashplan_checkpoint_runs.specs.SavedDies.{saved_start, saved_starts}
use Rattle.flashplan_script_runs.specs.RunningDies.{HasEmptyLog, running_of}
use Rattle.flashplan_script_runs.proofs.TextRuns.{empty_more, starts_more}
use Rattle.flashplan_checkpoint_runs.proofs.Refused.{left_as, one_goes_on, one_refuses}
use Rattle.flashplan_checkpoint_runs.proofs.starts.saved_store.Goals as goal

pub loop-plan-preserved : goal.loop-plan-preserved
loop-plan-preserved c =
    let plans : List DiePlan = into_iter_items c.next.new.self in
    let here : into_iter_items c.loop-plan.plan-iterator ≡ c.in-Some.plan ∷ plans = search rules in
    let cut : c.loop-plan.left.now ≡ c.in-Some-split_first.next.now ∷ c.in-Some-split_first.later.now = search rules in
    let pushed = c.in_ok-push_die.ensures.ok in
    record {
      can_next = tt;
      is_finite = tt;
      starts = ap (λ (dies : List (Core Memory)). starts_of dies ++ saved_starts plans c.in-Some-split_first.later.now) pushed
          ∙ starts_more running_of c.loop-plan.dies.items c.in_ok-die.die (saved_start c.in-Some.plan c.in-Some-split_first.next.now)
          (saved_starts plans c.in-Some-split_first.later.now) (saved_starts c.args.plan c.args.saved.now) c.in_ok-die.ensures.ok
          (ap (λ (l : List DiePlan). starts_of c.loop-plan.dies.items
          ++ saved_starts l (c.in-Some-split_first.next.now ∷ c.in-Some-split_first.later.now)) (sym here)
          ∙ ap (λ (l : List SavedDie). starts_of c.loop-plan.dies.items
          ++ saved_starts (into_iter_items c.loop-plan.plan-iterator) l) (sym cut)
          ∙ c.loop-plan.invariant.starts);
      empty = subst (λ (dies : List (Core Memory)). All HasEmptyLog (running dies)) (sym pushed)
          (empty_more running_of c.loop-plan.dies.items c.in_ok-die.die c.loop-plan.invariant.empty c.in_ok-die.ensures.log);
      run = subst (All (λ (die : Core Memory). die.stopped ≡ false)) (sym pushed)
          (All-push (λ (die : Core Memory). die.stopped ≡ false) c.loop-plan.dies.items c.in_ok-die.die c.loop-plan.invariant.run
          c.in_ok-die.ensures.runs);
      count = omega (
        arith,
        ap length pushed,
        ap length here,
        c.loop-plan.invariant.count,
        length-append c.loop-plan.dies.items (c.in_ok-die.die ∷ []),
      );
      gone = one_goes_on c.args.plan c.args.saved.now c.in-Some.plan c.in-Some-split_first.next.now plans c.in-Some-split_first.later.now
          c.in_ok-die.ensures.fits c.in_ok-die.ensures.have (left_as c.args.plan c.args.saved.now (into_iter_items c.loop-plan.plan-iterator) (c.in-Some.plan ∷ plans)
          c.loop-plan.left.now (c.in-Some-split_first.next.now ∷ c.in-Some-split_first.later.now) here cut c.loop-plan.invariant.gone);
      left = omega (arith, ap length cut, ap length here, c.loop-plan.invariant.left);
    }

pub returns-in_err-die-clause-refused : goal.returns-in_err-die-clause-refused
returns-in_err-die-clause-refused c =
    let plans : List DiePlan = into_iter_items c.next.new.self in
    let here : into_iter_items c.loop-plan.plan-iterator ≡ c.in-Some.plan ∷ plans = search rules in
    let cut : c.loop-plan.left.now ≡ c.in-Some-split_first.next.now ∷ c.in-Some-split_first.later.now = search rules in
    let many : length c.args.saved.now ≡ length c.args.plan = search rules in
    let refused : c.from_residual-in_err-die.result ≡ Err c.in_err-die.field-0.0 = search rules in
    rw refused (
    one_refuses c.args.plan c.args.saved.now c.in-Some.plan c.in-Some-split_first.next.now plans c.in-Some-split_first.later.now
    c.in_err-die.field-0.0 many
    (left_as c.args.plan c.args.saved.now (into_iter_items c.loop-plan.plan-iterator) (c.in-Some.plan ∷ plans) c.loop-plan.left.now
    (c.in-Some-split_first.next.now ∷ c.in-Some-split_first.later.now) here cut c.loop-plan.invariant.gone)
    c.in_err-die.ensures.refused)
