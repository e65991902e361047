use Rattle.std.proofs.Common.{◌≡◌, ℕ, ◌<◌}
use Rattle.plan_rules.specs.Bound.{MeetsBound}
use Rattle.flashplan_design.specs.Trials.{with_blocks}
use Rattle.flashplan_design.proofs.trials.first_that_meets.Given as goal

abbrev pub invariant-loop-blocks : goal.invariant-loop-blocks
invariant-loop-blocks l = record {
  rest : with_blocks l.plan l.initial.plan.shape.blocks ≡ l.initial.plan;
  none : (fewer : ℕ) → fewer < l.blocks → ¬ MeetsBound (with_blocks l.initial.plan fewer);
}
