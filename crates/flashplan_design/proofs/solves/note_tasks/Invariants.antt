use Rattle.std.proofs.Common.{All}
use Rattle.flashplan_design.specs.Findings.{IsSo}
use Rattle.flashplan_design.proofs.solves.note_tasks.Given as goal

abbrev pub invariant-loop-name : goal.invariant-loop-name
invariant-loop-name l = All (IsSo l.plan) l.findings.items
