use Rattle.std.proofs.Common.{◌≡◌, ◌++◌, drop}
use Rattle.flashplan_run_figures.specs.Csv.{fields}
use Rattle.flashplan_run_figures.proofs.csv.put_fields.Given as goal

abbrev pub invariant-loop-figure : goal.invariant-loop-figure
invariant-loop-figure l = l.text.items ++ fields (drop l.figure-index l.figures) ≡ l.initial.text.items ++ fields l.figures
