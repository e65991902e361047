use Rattle.std.proofs.Common.{◌≡◌, drop, map, None}
use Rattle.task_script.specs.RanScripts.{with_dies}
use Rattle.task_script.proofs.text_runs.first_refusal.Given as goal

abbrev pub invariant-loop-runner : goal.invariant-loop-runner
invariant-loop-runner l = with_dies l.first (map (λ runner. runner.die) (drop l.runner-index l.dies))
    ≡ with_dies None (map (λ runner. runner.die) l.dies)
