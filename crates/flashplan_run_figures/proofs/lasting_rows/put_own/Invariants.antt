use Rattle.std.proofs.Common.{◌≡◌, [], ◌++◌, drop}
use Rattle.std.specs.Prelude.{flat_map}
use Rattle.flashplan_run_figures.specs.FigureTexts.{figure_text}
use Rattle.flashplan_run_figures.specs.Tables.{left, right}
use Rattle.flashplan_run_figures.specs.declared.records.Figures.{Figures}
use Rattle.flashplan_run_figures.proofs.lasting_rows.put_own.Given as goal

abbrev pub invariant-loop : goal.invariant-loop
invariant-loop l =
    l.text.items ++ flat_map (λ (task : Figures). right l.layout.width []) (drop l.index l.items)
    ≡ l.fn.text.items
    ++ (left 25 l.name ++ right l.layout.width (figure_text l.fn.figure)
    ++ flat_map (λ (task : Figures). right l.layout.width []) l.records.tasks.items)
