use Rattle.std.proofs.Common.{◌≡◌, ℕ, drop}
use Rattle.std.specs.Prelude.{fold}
use Rattle.flashplan_run_figures.specs.Tables.{wide_all, wide_names}
use Rattle.flashplan_run_figures.specs.declared.records.Figures.{Figures}
use Rattle.flashplan_run_figures.proofs.tables.wide_for_all.Given as goal

abbrev pub invariant-loop-figures : goal.invariant-loop-figures
invariant-loop-figures l =
    fold (λ (width : ℕ) (f : Figures). wide_names l.layout f width 0 l.names) l.wide (drop l.figures-index l.figures-items)
    ≡ wide_all l.layout l.records l.names
