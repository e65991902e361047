use Rattle.std.proofs.Common.{◌≡◌, ◌++◌, drop}
use Rattle.std.specs.Prelude.{flat_map}
use Rattle.flashplan_run_figures.specs.Csv.{csv_record, csv_records}
use Rattle.flashplan_run_figures.proofs.csv.put_records.Given as goal

abbrev pub invariant-loop-figures : goal.invariant-loop-figures
invariant-loop-figures l =
    l.text.items ++ flat_map (csv_record l.die) (drop l.figures-index l.figures-items) ≡ l.fn.text.items ++ csv_records l.die l.records
