use Rattle.std.proofs.Common.{◌≡◌, ℕ, ◌%◌, ◌<◌, ◌≤◌, get_or}
use Rattle.slot_types.specs.declared.limits.TheConstants.{MAX_SLOT}
use Rattle.flashplan_design.specs.Commons.{Divide}
use Rattle.flashplan_design.proofs.Multiples.{nobody}
use Rattle.flashplan_design.proofs.commons.common_multiple.Given as goal

abbrev pub invariant-loop-task : goal.invariant-loop-task
invariant-loop-task l = record {
  some : 1 ≤ l.multiple;
  few : l.multiple ≤ MAX_SLOT;
  whole : l.multiple % l.of ≡ 0;
  own : (j : ℕ) → j < l.task-index → Divide l.periods l.multiple (get_or l.tasks j nobody);
  all : (n : ℕ) → n % l.of ≡ 0 → ((j : ℕ) → j < l.task-index → Divide l.periods n (get_or l.tasks j nobody)) → n % l.multiple ≡ 0;
}
