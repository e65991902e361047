use Rattle.std.proofs.Common.{◌≡◌, ◌∙◌, ◌++◌, ◌∷◌, [], ap, arith, sym}
use Rattle.std.proofs.lemmas.Grind.{common_steps}
use Rattle.std.specs.Vec.Iter.{into_iter_items}
use Rattle.task_script.specs.DieTexts.{report_parts}
use Rattle.task_script.specs.RanScripts.{dies_in}
use Rattle.task_script.specs.RowDies.{core_of}
use Rattle.task_script.specs.RunCounts.{rows_in, sum_of_counts}
use Rattle.task_script.specs.declared.row_dies.RowDie.{RowDie}
use Rattle.task_script.proofs.Ending.{all_left, next_die, none_left, rows_joined, same_die}
use Rattle.task_script.proofs.text_runs.finish.Goals as goal

pub loop-runner-init : goal.loop-runner-init
loop-runner-init g c =
    let gives = c.into_iter-runner-iterator.ensures.into_iter_gives.0 in record {
      can_next = tt;
      is_finite = tt;
      left = rw gives (all_left (dies_in c.args.runners.items) c.args.runners.items c.new-cores.result.items c.none-count.result c.requires.whole
          c.new-cores.ensures.items c.none-count.ensures);
    }

pub unreachable-requires : goal.unreachable-requires
unreachable-requires g c =
    let next = next_die _ _ _ _ _ c.in-Some.runner c.in-Some.ensures.steps.0 c.loop-runner.invariant.left in
    c.in_default.not-Ok next.die next.is

pub add_all-requires : goal.add_all-requires
add_all-requires g c =
    let next = next_die _ _ _ _ _ c.in-Some.runner c.in-Some.ensures.steps.0 c.loop-runner.invariant.left in
    let same = same_die next.die c.in-Ok.die c.in-Some.runner.die next.is c.in-Ok.is in
    record { few = omega (arith, next.few, c.requires.counted, ap rows_in c.into_parts-core.ensures.count, ap (λ (d : RowDie). rows_in d.count) c.in-Ok.die-is, ap (λ (d : RowDie). rows_in d.count) same) }

pub loop-runner-preserved : goal.loop-runner-preserved
loop-runner-preserved g c =
    let next = next_die _ _ _ _ _ c.in-Some.runner c.in-Some.ensures.steps.0 c.loop-runner.invariant.left in
    let same = same_die next.die c.in-Ok.die c.in-Some.runner.die next.is c.in-Ok.is in
    let core = c.into_inner.ensures ∙ (c.into_parts-core.ensures.die ∙ ap core_of (c.in-Ok.die-is ∙ sym same)) in
    let own = c.into_parts-core.ensures.count ∙ ap (λ (d : RowDie). d.count) (c.in-Ok.die-is ∙ sym same) in
    let joined = c.add_all.ensures ∙ ap (sum_of_counts c.loop-runner.count) own in record {
      can_next = tt;
      is_finite = tt;
      left = next.after c.push.new.self.items c.add_all.new.self
          (c.in_ok-push.ensures.items ∙ ap (λ x. c.loop-runner.cores.items ++ x ∷ []) core) joined
          (ap rows_in joined ∙ rows_joined c.loop-runner.count next.die.count);
    }

pub returns-clause-reported : goal.returns-clause-reported
returns-clause-reported g c =
    let gone : into_iter_items c.loop-runner.runner-iterator ≡ [] = grind (arith, common_steps) in
    let end = none_left (dies_in c.args.runners.items) _ c.loop-runner.cores.items c.loop-runner.count gone c.loop-runner.invariant.left in
    record { said = c.in_ok-parts.ensures.ok ∙ ap report_parts end.0; counted = end.1 }
