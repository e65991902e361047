use Rattle.std.proofs.Common.{◌*◌, ◌≤◌}
use Rattle.std.specs.Prelude.{All, IfSome}
use Rattle.flashplan_full_dies.specs.FullDies.{IsLeftAfter, IsFull}
use Rattle.flashplan_full_dies.proofs.fills.fill.Given as goal

abbrev pub invariant-loop-life : goal.invariant-loop-life
invariant-loop-life l = record {
  left : IsLeftAfter l.plan l.life l.refused l.from;
  few : l.refused ≤ l.life * 4294967295;
  slots : l.slots ≤ 1048576;
  not_full : l.least ≤ l.life → IfSome l.from (λ saved. ¬ All IsFull saved);
}
