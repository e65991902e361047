use Rattle.std.proofs.Common.{◌≡◌, ℕ, ◌++◌, drop, slice_index_or}
use Rattle.std.specs.Prelude.{flat_map}
use Rattle.std.specs.List.{enumerate_from}
use Rattle.demand_rules.specs.declared.terms.TaskTerms.{TaskTerms}
use Rattle.flashplan_terms_design.specs.DieTexts.{supply_line, supply_lines}
use Rattle.flashplan_terms_design.proofs.loads.put_supplies.Given as goal

abbrev pub invariant-loop-task : goal.invariant-loop-task
invariant-loop-task l =
    l.text.items ++ flat_map (λ (p : ℕ × TaskTerms). supply_line l.die p.0 l.plan (slice_index_or l.plan.caps p.0 0) p.1) (enumerate_from l.task (drop l.task l.tasks))
    ≡ l.initial.text.items ++ supply_lines l.die l.plan l.tasks
