use Rattle.std.proofs.Common.{◌≡◌, take}
use Rattle.flashplan_design.specs.Changes.{all_changes}
use Rattle.flashplan_design.proofs.changes.unranked.Given as goal

abbrev pub invariant-loop-finding : goal.invariant-loop-finding
invariant-loop-finding l = l.changes.items ≡ all_changes l.plan (take l.finding-index l.findings)
