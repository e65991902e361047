use Rattle.std.proofs.Common.{All}
use Rattle.flashplan_design.specs.Findings.{IsSo}
use Rattle.flashplan_design.proofs.solves.note_alpha.Given as goal

abbrev pub invariant-loop-die : goal.invariant-loop-die
invariant-loop-die l = All (IsSo l.plan) l.findings.items
