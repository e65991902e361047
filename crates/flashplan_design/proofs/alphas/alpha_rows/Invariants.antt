use Rattle.std.proofs.Common.{All}
use Rattle.flashplan_design.specs.Alphas.{IsRow}
use Rattle.flashplan_design.proofs.alphas.alpha_rows.Given as goal

abbrev pub invariant-loop-before : goal.invariant-loop-before
invariant-loop-before l = All (IsRow l.plan) l.rows.items

abbrev pub invariant-loop-die : goal.invariant-loop-die
invariant-loop-die l = All (IsRow l.plan) l.rows.items
