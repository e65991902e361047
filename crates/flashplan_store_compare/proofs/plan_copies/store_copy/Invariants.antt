use Rattle.std.proofs.Common.{◌≡◌, ◌++◌, drop}
use Rattle.flashplan_store_compare.proofs.plan_copies.store_copy.Given as goal

abbrev pub invariant-loop-plan : goal.invariant-loop-plan
invariant-loop-plan l = record {
  copied : l.copy ++ drop l.plan-index l.store ≡ l.store;
}
