use Rattle.std.proofs.Common.{◌≡◌, drop, not}
use Rattle.std.specs.List.{find}
use Rattle.slot_types.specs.Operations.{page_of}
use Rattle.planned_ports.specs.Pages.{may_use}
use Rattle.planned_ports.proofs.pages.first_foreign.Given as goal

abbrev pub invariant-loop-op : goal.invariant-loop-op
invariant-loop-op l = find (λ op. not (may_use l.pages (page_of op))) (drop l.op-index l.ops) ≡ find (λ op. not (may_use l.pages (page_of op))) l.ops
