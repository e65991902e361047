use Rattle.std.proofs.Common.{◌≡◌, ℕ, ◌<◌}
use Rattle.plan_texts.specs.Stores.{IsUsable, die_of}
use Rattle.flashplan_design.proofs.wholes.others_do.Given as goal

abbrev pub invariant-loop-die : goal.invariant-loop-die
invariant-loop-die l = (d : ℕ) → d < l.die → ¬ (d ≡ l.own) → IsUsable (die_of l.plan d)
