use Rattle.std.proofs.Common.{◌≡◌, ◌++◌, drop}
use Rattle.std.specs.Prelude.{flat_map}
use Rattle.flashplan_run_figures.specs.Tables.{all_records, cell, left, right}
use Rattle.flashplan_run_figures.specs.declared.records.Figures.{Figures}
use Rattle.flashplan_run_figures.proofs.tables.put_row.Given as goal

abbrev pub invariant-loop-figures : goal.invariant-loop-figures
invariant-loop-figures l =
    l.text.items ++ flat_map (λ (f : Figures). right l.layout.width (cell l.layout f l.row l.counted)) (drop l.figures-index l.figures-items)
    ≡ l.fn.text.items
    ++ (left 25 l.name ++ flat_map (λ (f : Figures). right l.layout.width (cell l.layout f l.row l.counted)) (all_records l.records))
