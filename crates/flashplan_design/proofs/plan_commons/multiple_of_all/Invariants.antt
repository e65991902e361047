use Rattle.std.proofs.Common.{◌≡◌, ℕ, ◌%◌, ◌<◌, ◌≤◌}
use Rattle.slot_types.specs.declared.limits.TheConstants.{MAX_SLOT}
use Rattle.flashplan_design.proofs.DieCommons.{IsCommonOf}
use Rattle.flashplan_design.proofs.plan_commons.multiple_of_all.Given as goal

abbrev pub invariant-loop-die : goal.invariant-loop-die
invariant-loop-die l = record {
  some : 1 ≤ l.common;
  few : l.common ≤ MAX_SLOT;
  own : (d : ℕ) → d < l.die → IsCommonOf l.plan l.common d;
  all : (n : ℕ) → ((d : ℕ) → d < l.die → IsCommonOf l.plan n d) → n % l.common ≡ 0;
}
