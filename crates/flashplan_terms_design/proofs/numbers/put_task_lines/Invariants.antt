use Rattle.std.proofs.Common.{◌≡◌, ℕ, ◌++◌, drop, slice_index_or}
use Rattle.std.specs.Prelude.{flat_map}
use Rattle.std.specs.List.{enumerate_from}
use Rattle.demand_rules.specs.declared.terms.TaskTerms.{TaskTerms}
use Rattle.flashplan_terms_design.specs.DieTexts.{task_line, task_lines}
use Rattle.flashplan_terms_design.proofs.numbers.put_task_lines.Given as goal

abbrev pub invariant-loop-task : goal.invariant-loop-task
invariant-loop-task l =
    l.text.items ++ flat_map (λ (p : ℕ × TaskTerms). task_line l.slot_us l.die p.0 (slice_index_or l.caps p.0 0) p.1) (enumerate_from l.task (drop l.task l.tasks))
    ≡ l.initial.text.items ++ task_lines l.slot_us l.die l.caps l.tasks
