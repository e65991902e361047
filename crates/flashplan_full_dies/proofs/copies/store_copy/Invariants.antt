use Rattle.std.proofs.Common.{◌≡◌, take}
use Rattle.flashplan_full_dies.proofs.copies.store_copy.Given as goal

abbrev pub invariant-loop-plan : goal.invariant-loop-plan
invariant-loop-plan l = l.copy ≡ take l.plan-index l.store
