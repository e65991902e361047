use Rattle.std.proofs.Common.{◌≡◌, [], replicate}
use Rattle.task_script.proofs.sending.empty_lists.Given as goal

abbrev pub invariant-loop-place : goal.invariant-loop-place
invariant-loop-place l = record {
  empty : l.lists.items ≡ replicate l.place [];
  same : l.run ≡ l.fn.run;
}
