use Rattle.std.proofs.Common.{All}
use Rattle.flashplan_design.specs.Findings.{IsSo}
use Rattle.flashplan_design.proofs.solves.note_alphas.Given as goal

abbrev pub invariant-loop-alpha : goal.invariant-loop-alpha
invariant-loop-alpha l = All (IsSo l.plan) l.findings.items
