use Rattle.std.proofs.Common.{◌+◌, rules}
use Rattle.std.specs.Prelude.{get_or}
use Rattle.task_script.specs.RunCounts.{capped}
use Rattle.task_script.proofs.Counting.{by_numbers}
use Rattle.task_script.proofs.run_counts.sum_of_kinds.Goals as goal

pub returns : goal.returns
returns c = by_numbers c.loop-number.sum (λ number. capped (get_or c.args.kinds number 0 + get_or c.args.more.now number 0))
    c.loop-number.invariant.0 (search rules)
