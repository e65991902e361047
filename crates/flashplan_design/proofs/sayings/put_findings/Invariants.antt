use Rattle.std.proofs.Common.{◌≡◌, ◌++◌, take}
use Rattle.flashplan_design.specs.Findings.{findings_text}
use Rattle.flashplan_design.proofs.sayings.put_findings.Given as goal

abbrev pub invariant-loop-of : goal.invariant-loop-of
invariant-loop-of l = l.text.items ≡ l.initial.text.items ++ findings_text l.slot_us (take l.of-index l.findings)
